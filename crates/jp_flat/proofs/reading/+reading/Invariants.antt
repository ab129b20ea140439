use Rattle.std.proofs.Common.{◌≡◌, ◌*◌, ◌+◌, length}
use Rattle.jp_flat.specs.Flat.{shown}
use Rattle.jp_flat.proofs.Loops.{ItemsSoFar, MembersSoFar}
use Rattle.jp_flat.proofs.reading.+reading.Given as goal

abbrev pub decreases-value : goal.decreases-value
decreases-value _ l = 3 * l.depth + 1

abbrev pub decreases-container : goal.decreases-container
decreases-container _ l = 3 * l.depth

abbrev pub decreases-items : goal.decreases-items
decreases-items _ l = 3 * l.depth + 2

abbrev pub decreases-members : goal.decreases-members
decreases-members _ l = 3 * l.depth + 2

abbrev pub invariant-items-items : goal.invariant-items-items
invariant-items-items _ l = record {
  so : ItemsSoFar l.depth l.fn.reader.tokens l.reader.tokens (shown l.fn.tables) (shown l.tables) l.base
      l.fn.pending.items.items l.pending.items.items;
  others : l.pending.members.items ≡ l.fn.pending.members.items;
  text : (l.reader.text ≡ l.tables.text.now) × (l.reader.text ≡ l.fn.reader.text);
}

abbrev pub decreases-items-items : goal.decreases-items-items
decreases-items-items _ l = length l.reader.tokens

abbrev pub invariant-members-members : goal.invariant-members-members
invariant-members-members _ l = record {
  so : MembersSoFar l.depth l.initial.reader.tokens l.reader.tokens (shown l.initial.tables) (shown l.tables)
      l.base l.rises l.initial.pending.members.items l.pending.members.items;
  others : l.pending.items.items ≡ l.initial.pending.items.items;
  text : (l.reader.text ≡ l.tables.text.now) × (l.reader.text ≡ l.initial.reader.text);
}

abbrev pub decreases-members-members : goal.decreases-members-members
decreases-members-members _ l = length l.reader.tokens
