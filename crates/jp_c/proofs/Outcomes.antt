-- Running out of memory is an outcome of whatever is asked for with a form and a profile, in the steps that
-- were made.
use Rattle.std.proofs.Common.{◌≡◌, ◌≢◌, ◌⊎◌, ℕ, List, arith, inl, inr, refl, subst, sym}
use Rattle.jp_limit.specs.declared.output_limit.OutputLimit.{OutputLimit}
use Rattle.jsonpath.specs.declared.fault.FindFault.TheVariants.{Query, Document, DocumentTooLarge}
use Rattle.jsonpath.specs.declared.fault.FindFault.TheVariants.{NoMemory, StepsUsedUp}
use Rattle.jsonpath.specs.declared.fault.FindFault.TheVariants.{TooManyNodes, TooManyBytes}
use Rattle.jp_c.specs.Calls.{IsEvalOutcome}
use Rattle.jp_c.specs.Limit.{IsWithin, MakesSteps, Within}
use Rattle.jp_c.specs.declared.limit.Limit.{Limit}
use Rattle.jp_c.specs.declared.outcome.Outcome as outcome
use Rattle.jp_c.specs.declared.outcome.Outcome.TheVariants.{Text, Usage, Fault, Misread, OtherNumbers}

no_memory : (f p : ℕ) (query document : List ℕ) (most : OutputLimit) (o : outcome.Outcome)
    → IsEvalOutcome f p query document most o → o ≢ Usage
    → IsEvalOutcome f p query document most (Fault NoMemory)
no_memory f p query document most (Text text) is not = (is.0, is.1, is.2, is.3, tt, tt)
no_memory f p query document most Usage is not = absurd (not refl)
no_memory f p query document most (Fault fault) is not = (is.0, is.1, is.2, is.3, tt, tt)
no_memory f p query document most (Misread fault place) is not = (is.0, is.1, is.2, is.3, tt, tt)
no_memory f p query document most OtherNumbers is not = absurd is

-- whatever was made keeps to the limit
makes-within : (limit steps : ℕ) (o : outcome.Outcome) → MakesSteps limit o steps
    → IsWithin limit steps
makes-within limit steps (Text text) makes = makes
makes-within limit steps (Fault NoMemory) makes = makes
makes-within limit steps (Fault StepsUsedUp) makes = λ _. omega (arith, makes.1)
makes-within limit steps (Fault TooManyNodes) makes = makes
makes-within limit steps (Fault TooManyBytes) makes = makes
makes-within limit steps (Fault (Query r)) makes = λ _. omega (arith, makes)
makes-within limit steps (Fault (Document f)) makes = λ _. omega (arith, makes)
makes-within limit steps (Fault DocumentTooLarge) makes = λ _. omega (arith, makes)
makes-within limit steps (Misread f place) makes = λ _. omega (arith, makes)
makes-within limit steps Usage makes = λ _. omega (arith, makes)
makes-within limit steps OtherNumbers makes = λ _. omega (arith, makes)

-- an outcome, or running out of memory in place of one that is told of a form and a profile
pub kept_or_none : (limit : Limit) (f p : ℕ) (query document : List ℕ) (o kept : outcome.Outcome) (steps : ℕ)
    → Within limit (IsEvalOutcome f p query document) o steps
    → (kept ≡ o) ⊎ ((kept ≡ Fault NoMemory) × (o ≢ Usage))
    → Within limit (IsEvalOutcome f p query document) kept steps
kept_or_none limit f p query document o kept steps is (inl same) =
    subst (λ k. Within limit (IsEvalOutcome f p query document) k steps) (sym same) is
kept_or_none limit f p query document o kept steps is (inr none) =
    subst (λ k. Within limit (IsEvalOutcome f p query document) k steps) (sym none.0)
    (no_memory f p query document _ o is.0 none.1, makes-within limit.steps steps o is.1)
