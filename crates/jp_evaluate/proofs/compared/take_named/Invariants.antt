use Rattle.jp_tree.specs.Views.{query_of}
use Rattle.jp_evaluate.proofs.Paths.NamedSteps.{TakesNamed}
use Rattle.jp_evaluate.proofs.compared.take_named.Given as goal

-- those for the query's length and the names so far
abbrev pub invariant-loop-segment : goal.invariant-loop-segment
invariant-loop-segment l =
    TakesNamed (query_of l.query) l.segment-items l.segment-index l.fn.steps l.steps
