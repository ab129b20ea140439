use Rattle.std.proofs.Common.{◌≡◌, drop, false}
use Rattle.jp_select.specs.Steps.{Takes}
use Rattle.jp_evaluate.specs.Lent.{has_failed, rest_of, steps_of}
use Rattle.jp_command.proofs.selecting.pass_over.Given as goal

-- what is behind the nodes that are still to be passed over is what is asked for
abbrev pub invariant-loop-left : goal.invariant-loop-left
invariant-loop-left g l = record {
  working : has_failed l.nodes ≡ false;
  rest : drop l.left (rest_of g.V.Lent.meaning l.nodes)
      ≡ drop l.fn.count (rest_of g.V.Lent.meaning l.fn.nodes);
  taken : Takes (steps_of l.fn.nodes) (steps_of l.nodes);
}

abbrev pub decreases-loop-left : goal.decreases-loop-left
decreases-loop-left g l = l.left
