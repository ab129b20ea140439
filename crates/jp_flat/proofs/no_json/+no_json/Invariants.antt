use Rattle.std.proofs.Common.{◌≡◌, ◌≤◌, ◌*◌, ◌+◌, length}
use Rattle.jp_flat.proofs.NoValues.{ItemsLeft, MembersLeft}
use Rattle.jp_flat.proofs.no_json.+no_json.Given as goal

abbrev pub decreases-pass : goal.decreases-pass
decreases-pass l = 3 * l.depth + 1

abbrev pub decreases-pass_behind : goal.decreases-pass_behind
decreases-pass_behind l = 3 * l.depth

abbrev pub decreases-pass_items : goal.decreases-pass_items
decreases-pass_items l = 3 * l.depth + 2

abbrev pub decreases-pass_members : goal.decreases-pass_members
decreases-pass_members l = 3 * l.depth + 2

abbrev pub invariant-pass_items-items : goal.invariant-pass_items-items
invariant-pass_items-items l = record {
  left : ItemsLeft l.depth l.initial.cursor.tokens l.cursor.tokens;
  shorter : length l.cursor.tokens ≤ length l.initial.cursor.tokens;
  text : l.cursor.text ≡ l.initial.cursor.text;
}

abbrev pub decreases-pass_items-items : goal.decreases-pass_items-items
decreases-pass_items-items l = length l.cursor.tokens

abbrev pub invariant-pass_members-members : goal.invariant-pass_members-members
invariant-pass_members-members l = record {
  left : MembersLeft l.depth l.initial.cursor.tokens l.cursor.tokens;
  shorter : length l.cursor.tokens ≤ length l.initial.cursor.tokens;
  text : l.cursor.text ≡ l.initial.cursor.text;
}

abbrev pub decreases-pass_members-members : goal.decreases-pass_members-members
decreases-pass_members-members l = length l.cursor.tokens
