use Rattle.std.proofs.Common.{◌≡◌, map, take}
use Rattle.jp_document.specs.Value.{member_of, value_of}
use Rattle.jp_flat.specs.Flat.{shown}
use Rattle.jp_flat.proofs.Planted.{ItemsPut, MembersPut}
use Rattle.jp_flat.proofs.of_tree.+of_tree.Given as goal

abbrev pub invariant-put_items-loop-value : goal.invariant-put_items-loop-value
invariant-put_items-loop-value l = record {
  put : ItemsPut l.depth (shown l.initial.tables) (shown l.tables) l.initial.pending.items.items
      l.pending.items.items (take l.value-index (map value_of l.items));
  others : l.pending.members.items ≡ l.initial.pending.members.items;
}

abbrev pub invariant-put_members-loop-member : goal.invariant-put_members-loop-member
invariant-put_members-loop-member l = record {
  put : MembersPut l.depth (shown l.initial.tables) (shown l.tables) l.initial.pending.members.items
      l.pending.members.items (take l.member-index (map member_of l.members));
  others : l.pending.items.items ≡ l.initial.pending.items.items;
}
