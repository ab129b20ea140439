-- What is told of an answer is an outcome of what was asked.
use Rattle.std.proofs.Common.{◌≡◌, ℕ, List}
use Rattle.std.proofs.Common.{IfErr, MatchResult, Ok, OnOk, Err, Option, Result, Some, String}
use Rattle.std.proofs.Common.{arith, inl, inr, length, string_bytes, subst, sym}
use Rattle.std.specs.declared.alloc.Global.{Global}
use Rattle.jp_check.specs.Numbers.{numbers}
use Rattle.jp_check.specs.declared.profile.Profile.{Profile}
use Rattle.jp_command.specs.Lines.{lines_of}
use Rattle.jp_command.specs.Selecting.{nodes_behind}
use Rattle.jp_command.specs.declared.form.Form.{Form}
use Rattle.jp_document.specs.Exact.{IsDocumentIn}
use Rattle.jp_document.specs.Value.{Value}
use Rattle.jp_evaluate.specs.Plan.{IsReadToAnswer, nodes_read}
use Rattle.jp_held.specs.declared.portion.Excerpt.{Excerpt}
use Rattle.jp_limit.specs.OutputLimit.{StaysWithin}
use Rattle.jp_limit.specs.declared.output_limit.OutputLimit.{OutputLimit}
use Rattle.jp_tree.specs.Tree.{QueryTree}
use Rattle.jsonpath.specs.Find.{IsGivenUp}
use Rattle.jsonpath.specs.Size.{Fits}
use Rattle.jsonpath.specs.declared.fault.FindFault.{FindFault}
use Rattle.jsonpath.specs.declared.fault.FindFault.TheVariants.{Query, Document, DocumentTooLarge}
use Rattle.jsonpath.specs.declared.fault.FindFault.TheVariants.{NoMemory, StepsUsedUp}
use Rattle.jsonpath.specs.declared.fault.FindFault.TheVariants.{TooManyNodes, TooManyBytes}
use Rattle.jp_c.specs.Asking.{IsAskDocumentOutcome, IsAskOutcome, IsAskedOf, IsKeptFor, IsNoAnswerOf, answer_of}
use Rattle.jp_c.specs.Asking.{nodes_asked}
use Rattle.jp_c.specs.Limit.{MakesSteps, Within, most_of, output_within}
use Rattle.jp_c.specs.Private.Placing.{IsPlaced, IsTold}
use Rattle.jp_c.specs.declared.kept.Kept.{Kept}
use Rattle.jp_c.specs.declared.limit.Limit.{Limit}
use Rattle.jp_c.specs.declared.outcome.Outcome as outcome
use Rattle.jp_c.specs.declared.outcome.Outcome.TheVariants.{Text, Fault, Misread}

-- a document of which nothing is given has no answer
pub given-none : (from count : ℕ) (f : Form) (p : Profile) (q : QueryTree) (bytes : List ℕ) (most : OutputLimit)
    (d : Value) (fault : FindFault) → IsDocumentIn (numbers p) bytes d → Fits bytes
    → IsGivenUp most (length (nodes_asked from count q d)) (length (answer_of from count f q d)) fault
    → IsNoAnswerOf from count f p q bytes most fault
given-none from count f p q bytes most d (Query r) is fits why = absurd why
given-none from count f p q bytes most d (Document x) is fits why = absurd why
given-none from count f p q bytes most d DocumentTooLarge is fits why = absurd why
given-none from count f p q bytes most d NoMemory is fits why = tt
given-none from count f p q bytes most d StepsUsedUp is fits why = (d, is, fits, tt)
given-none from count f p q bytes most d TooManyNodes is fits why = (d, is, fits, why)
given-none from count f p q bytes most d TooManyBytes is fits why = (d, is, fits, why)

-- what is asked of what was read of a document for the query is asked of the document
module _ (from count : ℕ) (f : Form) (p : Profile) (q : QueryTree) (bytes : List ℕ) (most : OutputLimit) (e : Excerpt)
    (fits : Fits bytes) (read : IsReadToAnswer (numbers p) q bytes e) where
  pub read_answer : (r : Result (Unit {0}) FindFault) (text : List ℕ)
      → OnOk r (text ≡ lines_of f (nodes_behind from (most_of count) (nodes_read q e)))
      → OnOk r (StaysWithin most (length (nodes_behind from (most_of count) (nodes_read q e))) (length text))
      → OnOk r ((d : Value) × IsDocumentIn (numbers p) bytes d × Fits bytes × (text ≡ answer_of from count f q d)
      × StaysWithin most (length (nodes_asked from count q d)) (length text))
  read_answer (Ok u) text lines within = (
    read.document,
    read.is,
    fits,
    subst (λ ns. text ≡ lines_of f (nodes_behind from (most_of count) ns)) read.same lines,
    subst (λ ns. StaysWithin most (length (nodes_behind from (most_of count) ns)) (length text)) read.same within,
  )
  read_answer (Err fault) text lines within = lines

  pub read-refused : (r : Result (Unit {0}) FindFault)
      → IfErr r (IsGivenUp most (length (nodes_behind from (most_of count) (nodes_read q e)))
      (length (lines_of f (nodes_behind from (most_of count) (nodes_read q e)))))
      → IfErr r (IsNoAnswerOf from count f p q bytes most)
  read-refused (Ok u) why = why
  read-refused (Err fault) why =
      given-none from count f p q bytes most read.document fault read.is fits
      (subst (λ ns. IsGivenUp most (length (nodes_behind from (most_of count) ns))
      (length (lines_of f (nodes_behind from (most_of count) ns))) fault) read.same why)

module _ (limit : Limit) (form from count : ℕ) (query : Option Kept) (f : Form) (p : Profile) (q : QueryTree)
    (bytes : List ℕ) (is : IsAskedOf form query f p q) (steps : ℕ) where
  abbrev allowed : OutputLimit
  allowed = output_within limit

  abbrev IsAllowed : outcome.Outcome → Type 0
  IsAllowed o = Within limit (IsAskOutcome form from count query bytes) o steps

  told_fault : (fault : FindFault) (b : outcome.Outcome) → IsNoAnswerOf from count f p q bytes allowed fault
      → MakesSteps limit.steps (Fault fault) steps → IsTold (numbers p) bytes fault b → IsAllowed b
  told_fault (Document d) b none made (inl told) =
      subst IsAllowed (sym told.2) ((f, p, q, is, none, told.1), made)
  told_fault (Document d) b none made (inr told) =
      subst IsAllowed (sym told) ((f, p, q, is, tt, tt), λ _. omega (arith, made))
  told_fault (Query r) b none made told = absurd none
  told_fault DocumentTooLarge b none made told =
      subst IsAllowed (sym told) ((f, p, q, is, none, tt), made)
  told_fault NoMemory b none made told = subst IsAllowed (sym told) ((f, p, q, is, none, tt), made)
  told_fault StepsUsedUp b none made told = subst IsAllowed (sym told) ((f, p, q, is, none, tt), made)
  told_fault TooManyNodes b none made told = subst IsAllowed (sym told) ((f, p, q, is, none, tt), made)
  told_fault TooManyBytes b none made told = subst IsAllowed (sym told) ((f, p, q, is, none, tt), made)

  pub told_of_bytes : (text : String Global) (answer : Result (Unit {0}) FindFault)
      (o b : outcome.Outcome) (made : ℕ)
      → MatchResult answer (λ _. o ≡ Text text) (λ fault. o ≡ Fault fault)
      → OnOk answer ((d : Value) × IsDocumentIn (numbers p) bytes d × Fits bytes
      × (string_bytes text ≡ answer_of from count f q d)
      × StaysWithin allowed (length (nodes_asked from count q d)) (length (string_bytes text)))
      → IfErr answer (IsNoAnswerOf from count f p q bytes allowed)
      → MakesSteps limit.steps o made → steps ≡ made
      → IsPlaced (numbers p) bytes o b → IsAllowed b
  told_of_bytes text (Ok u) o b made same here none makes counts placed =
      subst IsAllowed (sym (subst (λ x. IsPlaced (numbers p) bytes x b) same placed)) (
        (f, p, q, here.0, is, here.1, here.2, here.3, here.4),
        subst (λ s. MakesSteps limit.steps (Text text) s) (sym counts)
            (subst (λ x. MakesSteps limit.steps x made) same makes),
      )
  told_of_bytes text (Err fault) o b made same here none makes counts placed =
      told_fault fault b none
      (subst (λ s. MakesSteps limit.steps (Fault fault) s) (sym counts)
      (subst (λ x. MakesSteps limit.steps x made) same makes))
      (subst (λ x. IsPlaced (numbers p) bytes x b) same placed)

pub told_of_document : (most : OutputLimit) (form from count : ℕ) (query document : Option Kept) (f : Form) (p : Profile)
    (q : QueryTree) (text : String Global) (answer : Result (Unit {0}) FindFault) (o : outcome.Outcome) (d : Value)
    → IsAskedOf form query f p q → IsKeptFor p document d
    → MatchResult answer (λ _. o ≡ Text text) (λ fault. o ≡ Fault fault)
    → OnOk answer (string_bytes text ≡ answer_of from count f q d)
    → OnOk answer (StaysWithin most (length (nodes_asked from count q d)) (length (string_bytes text)))
    → IfErr answer (IsGivenUp most (length (nodes_asked from count q d)) (length (answer_of from count f q d)))
    → IsAskDocumentOutcome form from count query document most o
told_of_document most form from count query document f p q text (Ok u) o d is kept same here within none =
    subst (IsAskDocumentOutcome form from count query document most) (sym same) (f, p, q, d, is, kept, here, within)
told_of_document most form from count query document f p q text (Err fault) o d is kept same here within none =
    subst (IsAskDocumentOutcome form from count query document most) (sym same) (f, p, q, d, is, kept, none)
