use Rattle.std.proofs.Common.{◌≡◌, ◌↔◌, ◌+◌, ◌*◌, ◌≤◌, ◌<◌, ◌++◌, ℕ, List, length, take}
use Rattle.std.specs.Str.{chars}
use Rattle.jp_iregexp.specs.Positions.{positions_of}
use Rattle.jp_match.specs.Bounds.{MakesAtMost}
use Rattle.jp_match.specs.Scan.{Left, tree_of}
use Rattle.jp_match.proofs.marks.accepts_prefix.Given as goal

abbrev pub invariant-loop-c : goal.invariant-loop-c
invariant-loop-c l = record {
  taken : l.yielded ≡ take (length l.yielded) (chars l.text);
  within : length l.yielded ≤ length (chars l.text);
  none : (count : ℕ) → count < length l.yielded → Left l.fn.scan (take count (chars l.text)) → ⊥;
  left : (word : List ℕ) → Left l.scan word ↔ Left l.fn.scan (l.yielded ++ word);
  same : tree_of l.scan ≡ tree_of l.fn.scan;
  tests : MakesAtMost (positions_of (tree_of l.fn.scan) * length l.yielded) l.fn.tests l.tests;
  budget : l.budget ≤ l.fn.tests + positions_of (tree_of l.fn.scan) * length l.yielded;
}
