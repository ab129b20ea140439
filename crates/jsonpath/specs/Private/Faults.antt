-- Which `FindFault` a query's refusal, a document's fault or an evaluation's becomes: running out of
-- memory is the same in each. The conversions to `FindFault` cite it.
use Rattle.std.specs.Prelude.{◌≡◌, ◌⊎◌, ◌<◌, ◌+◌, ◌^◌, ℕ}
use Rattle.jp_document.specs.declared.fault.DocumentFault.{DocumentFault}
use Rattle.jp_document.specs.declared.fault.DocumentFault.TheVariants as document
use Rattle.jp_evaluate.specs.declared.evaluation_fault.EvaluationFault.{EvaluationFault}
use Rattle.jp_evaluate.specs.declared.evaluation_fault.EvaluationFault.TheVariants as evaluation
use Rattle.jp_query.specs.declared.refusal.Refusal.{Refusal}
use Rattle.jp_query.specs.declared.refusal.RefusalKind.{RefusalKind}
use Rattle.jp_query.specs.declared.refusal.RefusalKind.TheVariants as kind
use Rattle.jsonpath.specs.declared.fault.FindFault.{FindFault}
use Rattle.jsonpath.specs.declared.fault.FindFault.TheVariants.{Query, Document, NoMemory, StepsUsedUp}
use Rattle.jsonpath.specs.declared.fault.FindFault.TheVariants.{TooManyBytes}

abbrev pub fault_of_kind : RefusalKind → Refusal → FindFault
fault_of_kind kind.NoMemory r = NoMemory
fault_of_kind _ r = Query r

abbrev pub fault_of_refusal : Refusal → FindFault
fault_of_refusal r = fault_of_kind r.kind r

abbrev pub fault_of_document : DocumentFault → FindFault
fault_of_document document.NoMemory = NoMemory
fault_of_document f = Document f

abbrev pub fault_of_evaluation : EvaluationFault → FindFault
fault_of_evaluation evaluation.NoMemory = NoMemory
fault_of_evaluation evaluation.StepsUsedUp = StepsUsedUp

-- of so many bytes so many are added, and there are more then than may be, as a number of 64 bits; or memory ran
-- out
abbrev pub IsPast : ℕ → ℕ → ℕ → FindFault → Type 0
IsPast size most added fault =
    (fault ≡ NoMemory)
    ⊎ ((fault ≡ TooManyBytes) × (most < size + added) × (size + added < 2 ^ 64))
