use Rattle.std.proofs.Common.{◌≡◌, drop, is_some}
use Rattle.jp_tree.specs.Views.{query_of}
use Rattle.jp_evaluate.proofs.Nodelists.Along.{of_segments}
use Rattle.jp_evaluate.specs.Named.{location_named, steps_of_segments}
use Rattle.jp_evaluate.proofs.named.names_steps.Given as goal

-- the segments so far name steps
abbrev pub invariant-loop-segment : goal.invariant-loop-segment
invariant-loop-segment l =
    is_some (steps_of_segments (of_segments (drop l.segment-index l.segment-items)))
    ≡ is_some (location_named (query_of l.query))
