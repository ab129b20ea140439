use Rattle.std.proofs.Common.{◌≡◌, drop, map}
use Rattle.jp_tree.specs.Singular.{are_single, is_singular}
use Rattle.jp_tree.specs.Tree.{segments}
use Rattle.jp_tree.specs.Views.{query_of, segment_of}
use Rattle.jp_check.proofs.singular.is_singular.Given as goal

-- the query is singular exactly if the segments still to come are
abbrev pub invariant-loop-segment : goal.invariant-loop-segment
invariant-loop-segment l =
    is_singular (query_of l.query) ≡ are_single
    (segments (map segment_of (drop l.segment-index l.segment-items)))
