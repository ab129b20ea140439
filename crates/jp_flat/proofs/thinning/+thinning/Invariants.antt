use Rattle.std.proofs.Common.{◌≡◌, ◌*◌, ◌+◌, length}
use Rattle.jp_flat.specs.Flat.{shown}
use Rattle.jp_flat.proofs.ThinnedItems.{KeptItems}
use Rattle.jp_flat.proofs.ThinnedMembers.{KeptMembers}
use Rattle.jp_flat.proofs.thinning.+thinning.Given as goal

abbrev pub decreases-thin_value : goal.decreases-thin_value
decreases-thin_value _ l = 3 * l.depth + 1

abbrev pub decreases-thin_container : goal.decreases-thin_container
decreases-thin_container _ l = 3 * l.depth

abbrev pub decreases-thin_items : goal.decreases-thin_items
decreases-thin_items _ l = 3 * l.depth + 2

abbrev pub decreases-thin_members : goal.decreases-thin_members
decreases-thin_members _ l = 3 * l.depth + 2

abbrev pub decreases-member_behind : goal.decreases-member_behind
decreases-member_behind _ l = 3 * l.depth + 1

abbrev pub invariant-thin_items-items : goal.invariant-thin_items-items
invariant-thin_items-items _ l = record {
  so : KeptItems l.fn.wanted l.depth l.fn.reader.tokens l.reader.tokens (shown l.fn.tables)
      (shown l.tables) l.base l.fn.pending.items.items l.pending.items.items;
  others : l.pending.members.items ≡ l.fn.pending.members.items;
  text : (l.reader.text ≡ l.tables.text.now) × (l.reader.text ≡ l.fn.reader.text);
}

abbrev pub decreases-thin_items-items : goal.decreases-thin_items-items
decreases-thin_items-items _ l = length l.reader.tokens

abbrev pub invariant-thin_members-members : goal.invariant-thin_members-members
invariant-thin_members-members _ l = record {
  so : KeptMembers l.fn.wanted l.depth l.initial.reader.tokens l.reader.tokens (shown l.initial.tables)
      (shown l.tables) l.base l.rises l.initial.pending.members.items l.pending.members.items;
  others : l.pending.items.items ≡ l.initial.pending.items.items;
  text : (l.reader.text ≡ l.tables.text.now) × (l.reader.text ≡ l.initial.reader.text);
}

abbrev pub decreases-thin_members-members : goal.decreases-thin_members-members
decreases-thin_members-members _ l = length l.reader.tokens
