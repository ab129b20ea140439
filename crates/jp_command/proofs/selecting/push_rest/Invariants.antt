use Rattle.std.proofs.Common.{◌≡◌, ◌≤◌, ◌+◌, ◌++◌, false, length, string_bytes}
use Rattle.std.specs.List.{flat_map}
use Rattle.jp_select.specs.Steps.{Takes}
use Rattle.jp_evaluate.specs.Lent.{has_failed, rest_of, steps_of}
use Rattle.jp_command.specs.Private.Fronts.{IsAlong}
use Rattle.jp_command.specs.Lead.{line_behind}
use Rattle.jp_command.specs.Selecting.{first_nodes}
use Rattle.jp_command.proofs.selecting.push_rest.Given as goal

-- the lines so far and those of the nodes to come that are asked for are all lines, and so with how many there are;
-- so far they keep to the limit
abbrev pub invariant-loop-form : goal.invariant-loop-form
invariant-loop-form g l = record {
  front : IsAlong l.form l.front l.nodes;
  working : has_failed l.nodes ≡ false;
  all : string_bytes l.lines
      ++ flat_map (line_behind l.lead l.form) (first_nodes l.left (rest_of g.V.Lent.meaning l.nodes))
      ≡ string_bytes l.fn.lines
      ++ flat_map (line_behind l.lead l.form) (first_nodes l.fn.most (rest_of g.V.Lent.meaning l.fn.nodes));
  count : l.count + length (first_nodes l.left (rest_of g.V.Lent.meaning l.nodes))
      ≡ length (first_nodes l.fn.most (rest_of g.V.Lent.meaning l.fn.nodes));
  taken : Takes (steps_of l.fn.nodes) (steps_of l.nodes);
  few : l.count ≤ l.most_nodes;
  short : length (string_bytes l.lines) ≤ l.end;
}

abbrev pub decreases-loop-form : goal.decreases-loop-form
decreases-loop-form g l = length (rest_of g.V.Lent.meaning l.nodes)
