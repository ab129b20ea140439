use Rattle.std.proofs.Common.{◌≤◌, ◌-◌, length}
use Rattle.jp_json.proofs.scalars.refused_scalar.Given as goal

abbrev pub invariant-scalars : goal.invariant-scalars
invariant-scalars l = l.at ≤ length l.text

abbrev pub decreases-scalars : goal.decreases-scalars
decreases-scalars l = length l.text - l.at
