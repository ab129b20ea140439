use Rattle.std.proofs.Common.{◌≡◌, ◌≤◌, ◌*◌, ◌+◌, None, length}
use Rattle.jp_flat.specs.Flat.{shown}
use Rattle.jp_flat.proofs.FoundInside.{ItemsFound, MembersFound}
use Rattle.jp_flat.proofs.passing.+passing.Given as goal

abbrev pub decreases-pass_value : goal.decreases-pass_value
decreases-pass_value _ l = 2 * l.depth

abbrev pub decreases-pass_items : goal.decreases-pass_items
decreases-pass_items _ l = 2 * l.depth + 1

abbrev pub decreases-pass_members : goal.decreases-pass_members
decreases-pass_members _ l = 2 * l.depth + 1

abbrev pub invariant-pass_items-items : goal.invariant-pass_items-items
invariant-pass_items-items _ l = record {
  so : ItemsFound l.depth l.initial.reader.tokens l.reader.tokens (shown l.tables) (shown l.tables) None
      l.count None;
  shorter : length l.reader.tokens ≤ length l.initial.reader.tokens;
  text : l.reader.text ≡ l.initial.reader.text;
}

abbrev pub decreases-pass_items-items : goal.decreases-pass_items-items
decreases-pass_items-items _ l = length l.reader.tokens

abbrev pub invariant-pass_members-members : goal.invariant-pass_members-members
invariant-pass_members-members _ l = record {
  so : MembersFound l.depth l.initial.reader.tokens l.reader.tokens (shown l.tables) (shown l.tables) None
      None;
  shorter : length l.reader.tokens ≤ length l.initial.reader.tokens;
  text : l.reader.text ≡ l.initial.reader.text;
}

abbrev pub decreases-pass_members-members : goal.decreases-pass_members-members
decreases-pass_members-members _ l = length l.reader.tokens
