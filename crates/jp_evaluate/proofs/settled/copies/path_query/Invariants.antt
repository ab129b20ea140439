use Rattle.jp_document.specs.Location.{step_of}
use Rattle.jp_tree.specs.Views.{segment_of}
use Rattle.jp_evaluate.specs.Private.PathTrees.{step_segment}
use Rattle.jp_evaluate.proofs.Settling.Lists.{IsMadeUpTo}
use Rattle.jp_evaluate.proofs.settled.copies.path_query.Given as goal

-- the segments so far
abbrev pub invariant-loop-step : goal.invariant-loop-step
invariant-loop-step l =
    IsMadeUpTo segment_of (λ k. step_segment (step_of k)) l.segments.items l.location l.step-index
