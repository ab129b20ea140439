use Rattle.std.proofs.Common.{◌≡◌, ◌*◌, ◌+◌, Some, length}
use Rattle.jp_flat.specs.Flat.{shown}
use Rattle.jp_flat.proofs.FoundInside.{ItemsFound, MembersFound}
use Rattle.jp_flat.proofs.finding.+finding.Given as goal

abbrev pub decreases-find : goal.decreases-find
decreases-find _ l = 3 * l.depth + 1

abbrev pub decreases-find_inside : goal.decreases-find_inside
decreases-find_inside _ l = 3 * l.depth

abbrev pub decreases-find_item : goal.decreases-find_item
decreases-find_item _ l = 3 * l.depth + 2

abbrev pub decreases-find_member : goal.decreases-find_member
decreases-find_member _ l = 3 * l.depth + 2

abbrev pub invariant-find_item-items : goal.invariant-find_item-items
invariant-find_item-items _ l = record {
  so : ItemsFound l.depth l.initial.reader.tokens l.reader.tokens (shown l.initial.tables) (shown l.tables)
      (Some l.sought) l.index l.found;
  items : l.pending.items.items ≡ l.initial.pending.items.items;
  members : l.pending.members.items ≡ l.initial.pending.members.items;
  text : (l.reader.text ≡ l.tables.text.now) × (l.reader.text ≡ l.initial.reader.text);
}

abbrev pub decreases-find_item-items : goal.decreases-find_item-items
decreases-find_item-items _ l = length l.reader.tokens

abbrev pub invariant-find_member-members : goal.invariant-find_member-members
invariant-find_member-members _ l = record {
  so : MembersFound l.depth l.initial.reader.tokens l.reader.tokens (shown l.initial.tables) (shown l.tables)
      (Some l.sought) l.found;
  items : l.pending.items.items ≡ l.initial.pending.items.items;
  members : l.pending.members.items ≡ l.initial.pending.members.items;
  text : (l.reader.text ≡ l.tables.text.now) × (l.reader.text ≡ l.initial.reader.text);
}

abbrev pub decreases-find_member-members : goal.decreases-find_member-members
decreases-find_member-members _ l = length l.reader.tokens
