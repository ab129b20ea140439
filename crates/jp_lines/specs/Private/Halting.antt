-- Why what is asked of documents was not read. The clauses of `read_query` and of those beside it cite it.
use Rattle.std.specs.Prelude.{◌≡◌, ⊤, ℕ, List}
use Rattle.jp_check.specs.declared.profile.Profile.{Profile}
use Rattle.jp_command.specs.Run.{RefusesQuery}
use Rattle.jp_command.specs.declared.fault.Fault.TheVariants.{NoMemory}
use Rattle.jp_lines.specs.Expression.{RefusesFilter}
use Rattle.jp_lines.specs.Request.{RefusesFirst}
use Rattle.jp_lines.specs.declared.halt.Unbegun.{Unbegun}
use Rattle.jp_lines.specs.declared.halt.Unbegun.TheVariants.{Expression, Fault, Query}

-- the query is refused, or memory ran out
abbrev pub StopsAtQuery : Profile → List ℕ → Unbegun → Type 0
StopsAtQuery profile query (Query text r) = (text.now ≡ query) × RefusesQuery profile query r
StopsAtQuery profile query (Fault NoMemory) = ⊤
StopsAtQuery profile query _ = ⊥

-- the same of an expression
abbrev pub StopsAtExpression : Profile → List ℕ → Unbegun → Type 0
StopsAtExpression profile expression (Expression text r) =
    (text.now ≡ expression) × RefusesFilter profile expression r
StopsAtExpression profile expression (Fault NoMemory) = ⊤
StopsAtExpression profile expression _ = ⊥

-- why not all of the queries were read: one is refused, or memory ran out
abbrev pub StopsReading : Profile → List (List ℕ) → Unbegun → Type 0
StopsReading profile queries (Query text r) = RefusesFirst profile queries r text.now
StopsReading profile queries (Fault NoMemory) = ⊤
StopsReading profile queries _ = ⊥
