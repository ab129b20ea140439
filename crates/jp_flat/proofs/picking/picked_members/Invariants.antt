use Rattle.std.proofs.Common.{◌≡◌, length}
use Rattle.jp_flat.specs.Asked.{is_listed}
use Rattle.jp_flat.specs.Flat.{shown}
use Rattle.jp_flat.proofs.PickedParts.{MembersPicked}
use Rattle.jp_flat.proofs.picking.picked_members.Given as goal

abbrev pub invariant-members : goal.invariant-members
invariant-members _ l = record {
  so : MembersPicked (is_listed l.names) l.depth l.initial.reader.tokens l.reader.tokens
      (shown l.initial.tables) (shown l.tables) l.base l.rises l.initial.pending.members.items
      l.pending.members.items;
  others : l.pending.items.items ≡ l.initial.pending.items.items;
  text : (l.reader.text ≡ l.tables.text.now) × (l.reader.text ≡ l.initial.reader.text);
}

abbrev pub decreases-members : goal.decreases-members
decreases-members _ l = length l.reader.tokens
