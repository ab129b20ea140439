use Rattle.std.proofs.Common.{◌≡◌, ◌+◌, ◌++◌, false, length, string_bytes}
use Rattle.std.specs.List.{flat_map}
use Rattle.jp_select.specs.Steps.{Takes}
use Rattle.jp_evaluate.specs.Lent.{has_failed, rest_of, steps_of}
use Rattle.jp_cells.specs.Cells.{values_in}
use Rattle.jp_cells.specs.Private.Lists.{behind_comma}
use Rattle.jp_cells.proofs.columns.push_others.Given as goal

-- the values so far and those to come are all
abbrev pub invariant-loop-next : goal.invariant-loop-next
invariant-loop-next g l = record {
  working : has_failed l.nodes ≡ false;
  all : string_bytes l.cell ++ flat_map behind_comma (values_in (rest_of g.V.Lent.meaning l.nodes))
      ≡ string_bytes l.fn.cell
      ++ flat_map behind_comma (values_in (rest_of g.V.Lent.meaning l.fn.nodes));
  count : l.count + length (rest_of g.V.Lent.meaning l.nodes)
      ≡ length (rest_of g.V.Lent.meaning l.fn.nodes);
  taken : Takes (steps_of l.fn.nodes) (steps_of l.nodes);
}

abbrev pub decreases-loop-next : goal.decreases-loop-next
decreases-loop-next g l = length (rest_of g.V.Lent.meaning l.nodes)
