-- A query with its plan, as its type holds them.
use Rattle.jp_check.specs.Checked.{Profiled}
use Rattle.jp_evaluate.specs.Plan.{Serves}
use Rattle.jp_tree.specs.Views.{query_of}
use Rattle.jp_c.specs.declared.planned.Planned.TheInside.{Inside}

-- the query
abbrev pub query_planned : Inside → Profiled
query_planned p = p.query

-- it selects over each document what it selects in what is read of that
abbrev pub IsPlanned : Inside → Type 0
IsPlanned p = Serves (query_of p.query.query) p.plan.portion
