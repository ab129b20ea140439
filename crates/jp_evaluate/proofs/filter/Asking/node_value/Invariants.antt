use Rattle.std.proofs.Common.{◌≡◌, drop}
use Rattle.jp_tree.specs.Views.{query_of}
use Rattle.jp_evaluate.specs.Nodelist.{nodelist_at, single_node_value}
use Rattle.jp_evaluate.specs.Private.Asked.{asked}
use Rattle.jp_evaluate.specs.Private.Singular.{values_along}
use Rattle.jp_evaluate.proofs.Nodelists.Along.{of_segments}
use Rattle.jp_evaluate.proofs.filter.Asking.node_value.Given as goal

-- the segments to come lead from here where all segments lead from the start
abbrev pub invariant-loop-segment : goal.invariant-loop-segment
invariant-loop-segment g l =
    values_along (of_segments (drop l.segment-index l.segment-items)) (g.V.Lent.meaning l.value)
    ≡ single_node_value (query_of l.query) (asked g.V.Lent.meaning l.self (nodelist_at (query_of l.query)))
