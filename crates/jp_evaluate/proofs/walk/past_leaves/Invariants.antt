use Rattle.std.proofs.Common.{◌≤◌, ◌-◌, drop, length}
use Rattle.jp_document.specs.Location.{entries}
use Rattle.jp_evaluate.specs.Private.Walk.{IsLeaf, Skips}
use Rattle.jp_evaluate.proofs.walk.past_leaves.Given as goal

-- those up to here have nothing inside them
abbrev pub invariant-leaves : goal.invariant-leaves
invariant-leaves g l = record {
  onward : l.from ≤ l.position;
  leaves : Skips IsLeaf (drop l.from (entries (g.V.Lent.meaning l.value)))
      (drop l.position (entries (g.V.Lent.meaning l.value)));
}

abbrev pub decreases-leaves : goal.decreases-leaves
decreases-leaves g l = length (entries (g.V.Lent.meaning l.value)) - l.position
