use Rattle.std.proofs.Common.{◌≤◌, length}
use Rattle.jp_evaluate.proofs.tally.last_of.Given as goal

abbrev pub invariant-loop-left : goal.invariant-loop-left
invariant-loop-left l = l.left ≤ length l.ways

abbrev pub decreases-loop-left : goal.decreases-loop-left
decreases-loop-left l = l.left
