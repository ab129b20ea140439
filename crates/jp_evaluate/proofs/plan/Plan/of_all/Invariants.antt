use Rattle.std.proofs.Common.{All, take}
use Rattle.jp_tree.specs.Views.{query_of}
use Rattle.jp_evaluate.specs.Plan.{Serves}
use Rattle.jp_evaluate.proofs.plan.Plan.of_all.Given as goal

-- the plan serves the queries so far
abbrev pub invariant-loop-query : goal.invariant-loop-query
invariant-loop-query l = All (λ c. Serves (query_of c.query) l.plan.portion) (take l.query-index l.queries)
