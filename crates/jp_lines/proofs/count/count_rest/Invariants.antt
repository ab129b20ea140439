use Rattle.std.proofs.Common.{◌≡◌, ◌+◌, false, length}
use Rattle.jp_select.specs.Steps.{Takes}
use Rattle.jp_evaluate.specs.Lent.{has_failed, rest_of, steps_of}
use Rattle.jp_lines.proofs.count.count_rest.Given as goal

-- those counted so far and those to come are all
abbrev pub invariant-loop-next : goal.invariant-loop-next
invariant-loop-next g l = record {
  working : has_failed l.nodes ≡ false;
  all : l.count + length (rest_of g.V.Lent.meaning l.nodes)
      ≡ length (rest_of g.V.Lent.meaning l.fn.nodes);
  taken : Takes (steps_of l.fn.nodes) (steps_of l.nodes);
}

abbrev pub decreases-loop-next : goal.decreases-loop-next
decreases-loop-next g l = length (rest_of g.V.Lent.meaning l.nodes)
