use Rattle.std.proofs.Common.{◌≡◌, ◌+◌, false, length}
use Rattle.jp_evaluate.specs.Lent.{has_failed, rest_of, steps_of}
use Rattle.jp_command.specs.Lead.{line_behind}
use Rattle.jp_command.specs.Private.AsFound.{WritesGiven}
use Rattle.jp_command.specs.Private.Fronts.{IsAlong}
use Rattle.jp_command.proofs.lines.write_lines.Given as goal

-- the lines of the nodes so far are written
abbrev pub invariant-loop-next : goal.invariant-loop-next
invariant-loop-next g l = record {
  front : IsAlong l.form l.front l.nodes;
  working : has_failed l.nodes ≡ false;
  unlimited : (steps_of l.nodes).limited ≡ false;
  written : WritesGiven g.W.Writer.contents g.W.Writer.write_takes (line_behind l.lead l.form) (rest_of g.V.Lent.meaning l.fn.nodes) (rest_of g.V.Lent.meaning l.nodes)
      l.fn.output l.output;
  count : l.count + length (rest_of g.V.Lent.meaning l.nodes)
      ≡ length (rest_of g.V.Lent.meaning l.fn.nodes);
  works : g.W.Writer.has_failed l.output ≡ g.W.Writer.has_failed l.fn.output;
}

abbrev pub decreases-loop-next : goal.decreases-loop-next
decreases-loop-next g l = length (rest_of g.V.Lent.meaning l.nodes)
