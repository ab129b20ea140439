-- The answer of a query over a document, as it is told: a fault of the document with its place.
use Rattle.std.proofs.Common.{◌≡◌, ℕ, List, Result, Ok, Err, IfOk, IfErr, MatchResult, Some}
use Rattle.std.proofs.Common.{String, arith, inl, inr, string_bytes, subst, sym}
use Rattle.std.specs.declared.alloc.Global.{Global}
use Rattle.jp_check.specs.Numbers.{numbers}
use Rattle.jp_check.specs.declared.profile.Profile.{Profile}
use Rattle.jp_command.specs.declared.form.Form.{Form}
use Rattle.jp_document.specs.declared.fault.DocumentFault.{DocumentFault}
use Rattle.jp_limit.specs.declared.output_limit.OutputLimit.{OutputLimit}
use Rattle.jsonpath.specs.declared.fault.FindFault.{FindFault}
use Rattle.jsonpath.specs.declared.fault.FindFault.TheVariants.{Query, Document, DocumentTooLarge}
use Rattle.jsonpath.specs.declared.fault.FindFault.TheVariants.{NoMemory, StepsUsedUp}
use Rattle.jsonpath.specs.declared.fault.FindFault.TheVariants.{TooManyNodes, TooManyBytes}
use Rattle.jp_c.specs.Asked.{IsAnswer, IsNoAnswer}
use Rattle.jp_c.specs.Calls.{IsEvalOutcome}
use Rattle.jp_c.specs.Limit.{MakesSteps, Within, output_within}
use Rattle.jp_c.specs.Numbers.{form_of, profile_of}
use Rattle.jp_c.specs.Private.Placing.{IsPlaced, IsTold}
use Rattle.jp_c.specs.declared.limit.Limit.{Limit}
use Rattle.jp_c.specs.declared.outcome.Outcome as outcome
use Rattle.jp_c.specs.declared.outcome.Outcome.TheVariants.{Text, Fault}

module _ (limit : Limit) (f p : ℕ) (query document : List ℕ) (form : Form) (profile : Profile)
    (form_is : form_of f ≡ Some form) (is : profile_of p ≡ Some profile) (steps : ℕ) where
  abbrev allowed : OutputLimit
  allowed = output_within limit

  abbrev IsAllowed : outcome.Outcome → Type 0
  IsAllowed o = Within limit (IsEvalOutcome f p query document) o steps

  document-told : (fault : DocumentFault) (o : outcome.Outcome)
      → IsNoAnswer allowed profile form query document (Document fault) → steps ≡ 0
      → IsTold (numbers profile) document (Document fault) o → IsAllowed o
  document-told fault o none made (inl told) =
      subst IsAllowed (sym told.2) ((form, profile, form_is, is, none, told.1), made)
  document-told fault o none made (inr told) =
      subst IsAllowed (sym told) ((form, profile, form_is, is, tt, tt), λ _. omega (arith, made))

  fault-told : (fault : FindFault) (o : outcome.Outcome)
      → IsNoAnswer allowed profile form query document fault → MakesSteps limit.steps (Fault fault) steps
      → IsTold (numbers profile) document fault o → IsAllowed o
  fault-told (Query r) o none made told =
      subst IsAllowed (sym told) ((form, profile, form_is, is, none, tt), made)
  fault-told (Document fault) o none made told = document-told fault o none made told
  fault-told DocumentTooLarge o none made told =
      subst IsAllowed (sym told) ((form, profile, form_is, is, none, tt), made)
  fault-told NoMemory o none made told =
      subst IsAllowed (sym told) ((form, profile, form_is, is, none, tt), made)
  fault-told StepsUsedUp o none made told =
      subst IsAllowed (sym told) ((form, profile, form_is, is, none, tt), made)
  fault-told TooManyNodes o none made told =
      subst IsAllowed (sym told) ((form, profile, form_is, is, none, tt), made)
  fault-told TooManyBytes o none made told =
      subst IsAllowed (sym told) ((form, profile, form_is, is, none, tt), made)

  pub answer-told : (r : Result (String Global) FindFault)
      (before o : outcome.Outcome) (made : ℕ)
      → IfOk r (λ text. IsAnswer allowed profile form query document (string_bytes text))
      → IfErr r (IsNoAnswer allowed profile form query document)
      → MatchResult r (λ text. before ≡ Text text) (λ fault. before ≡ Fault fault)
      → MakesSteps limit.steps before made → steps ≡ made
      → IsPlaced (numbers profile) document before o → IsAllowed o
  answer-told (Ok text) before o made answer none same makes count placed =
      subst IsAllowed (sym (subst (λ b. IsPlaced (numbers profile) document b o) same placed)) (
        (form, profile, form_is, is, answer),
        subst (λ s. MakesSteps limit.steps (Text text) s) (sym count)
            (subst (λ b. MakesSteps limit.steps b made) same makes),
      )
  answer-told (Err fault) before o made answer none same makes count placed =
      fault-told fault o none
      (subst (λ s. MakesSteps limit.steps (Fault fault) s) (sym count)
      (subst (λ b. MakesSteps limit.steps b made) same makes))
      (subst (λ b. IsPlaced (numbers profile) document b o) same placed)
