use Rattle.std.proofs.Common.{◌≡◌, drop}
use Rattle.jp_evaluate.proofs.Nodelists.Along.{of_segments}
use Rattle.jp_evaluate.specs.Private.Asks.{has_no_filter}
use Rattle.jp_evaluate.proofs.asked.members.has_no_filter.Given as goal

-- the segments so far have no filter
abbrev pub invariant-loop-segment : goal.invariant-loop-segment
invariant-loop-segment l =
    has_no_filter (of_segments (drop l.segment-index l.segments))
    ≡ has_no_filter (of_segments l.segments)
