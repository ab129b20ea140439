-- The queries and the document of `jp_eval_many`, as they were read, and what each query is answered.
use Rattle.std.specs.Prelude.{◌≡◌, ◌⊎◌, ℕ, List, Option, Result, None, Some, IfErr, IfOk, IfSome, MatchResult}
use Rattle.std.specs.Prelude.{slice_get}
use Rattle.jp_check.specs.Checked.{Profiled}
use Rattle.jp_check.specs.Numbers.{numbers}
use Rattle.jp_check.specs.declared.profile.Profile.{Profile}
use Rattle.jp_decimal.specs.declared.numbers.Numbers.{Numbers}
use Rattle.jp_decimal.specs.declared.numbers.Numbers.TheVariants.{Whole}
use Rattle.jp_evaluate.specs.Plan.{HoldsPortion, Serves}
use Rattle.jp_held.specs.declared.portion.Portion.{Portion}
use Rattle.jp_query.specs.declared.refusal.Refusal.{Refusal}
use Rattle.jp_query.specs.declared.refusal.RefusalKind.TheVariants.{NoMemory}
use Rattle.jp_tree.specs.Views.{query_of}
use Rattle.jsonpath.specs.Size.{Fits}
use Rattle.jp_c.specs.Asked.{IsAcceptedInBytes, IsNoDocument, RefusesBytes}
use Rattle.jp_c.specs.Calls.{IsEvalOutcome}
use Rattle.jp_c.specs.Limit.{Within}
use Rattle.jp_c.specs.Many.{query_asked}
use Rattle.jp_c.specs.Misread.{IsMisreadAt}
use Rattle.jp_c.specs.Numbers.{profile_of}
use Rattle.jp_c.specs.declared.many.Question.{Question}
use Rattle.jp_c.specs.declared.many.Subject.{Subject}
use Rattle.jp_c.specs.declared.outcome.Outcome as outcome

-- what was read of these bytes: they are accepted in the profile as the query, or refused so; running out
-- of memory says nothing of them
abbrev pub IsReadAs : Profile → List ℕ → Result Profiled Refusal → Type 0
IsReadAs profile query read = MatchResult read (λ c. IsAcceptedInBytes profile query (query_of c.query))
    (λ r. (r.kind ≡ NoMemory) ⊎ RefusesBytes profile query r)

-- the same of a profile's number, if it has one; and that portion of a document serves the query
pub record IsReadToServe (profile : ℕ) (portion : Portion) (query : List ℕ)
    (read : Result Profiled Refusal) : Type 0 where
  pub is : (p : Profile) → profile_of profile ≡ Some p → IsReadAs p query read
  pub serves : IfOk read (λ c. Serves (query_of c.query) portion)

-- so the queries of the first questions were read
abbrev pub AreRead : ℕ → Portion → List ℕ → List Question → List (Result Profiled Refusal) → Type 0
AreRead profile portion bytes questions reads =
    (i : ℕ) (q : Question) (r : Result Profiled Refusal)
    → slice_get questions i ≡ Some q → slice_get reads i ≡ Some r
    → IsReadToServe profile portion (query_asked bytes q) r

-- the numbers of a profile, if it is one: else whole ones, with which no query is asked
abbrev pub numbers_in : Option Profile → Numbers
numbers_in (Some p) = numbers p
numbers_in None = Whole

-- the tables hold that portion of the document with such numbers, or the fault is why it is none, and the place
-- is where
pub record IsReadIn (n : Numbers) (s : Subject) : Type 0 where
  pub tables : IfOk s.read
      (λ flat. HoldsPortion n s.plan.now.portion s.document.now flat × Fits s.document.now)
  pub fault : IfErr s.read (IsNoDocument n s.document.now)
  pub place : IfSome s.place (IsMisreadAt n s.document.now)

-- so the document was read with the numbers of the profile of that number
abbrev pub IsSound : Subject → Type 0
IsSound s = IsReadIn (numbers_in (profile_of s.profile)) s

-- a query has such an outcome, by so many steps
abbrev pub IsAnswered : Subject → List ℕ → outcome.Outcome → ℕ → Type 0
IsAnswered s query = Within s.limit (IsEvalOutcome s.form s.profile query s.document.now)
