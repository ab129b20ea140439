use Rattle.std.proofs.Common.{drop, map}
use Rattle.jp_document.specs.Location.{owned_step}
use Rattle.jp_tree.specs.Views.{query_of}
use Rattle.jp_evaluate.proofs.Paths.Steps.{Continues}
use Rattle.jp_evaluate.proofs.named.push_steps.Given as goal

-- the steps so far go on with those of the segments to come
abbrev pub invariant-loop-segment : goal.invariant-loop-segment
invariant-loop-segment l =
    Continues (query_of l.query) (map owned_step l.location.items) (drop l.segment-index
    l.segment-items)
