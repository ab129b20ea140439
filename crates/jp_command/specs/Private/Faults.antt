-- Which `Fault` of a run a query's refusal or a document's fault becomes, and which `SelectionFault` an
-- evaluation's: running out of memory is the same in each. The conversions cite it.
use Rattle.jp_document.specs.declared.fault.DocumentFault.{DocumentFault}
use Rattle.jp_document.specs.declared.fault.DocumentFault.TheVariants as document
use Rattle.jp_evaluate.specs.declared.evaluation_fault.EvaluationFault.{EvaluationFault}
use Rattle.jp_evaluate.specs.declared.evaluation_fault.EvaluationFault.TheVariants as evaluation
use Rattle.jp_query.specs.declared.refusal.Refusal.{Refusal}
use Rattle.jp_query.specs.declared.refusal.RefusalKind.{RefusalKind}
use Rattle.jp_query.specs.declared.refusal.RefusalKind.TheVariants as kind
use Rattle.jp_command.specs.declared.fault.Fault.{Fault}
use Rattle.jp_command.specs.declared.fault.Fault.TheVariants.{Query, Document, NoMemory}
use Rattle.jp_command.specs.declared.selection_fault.SelectionFault.{SelectionFault}
use Rattle.jp_command.specs.declared.selection_fault.SelectionFault.TheVariants as selection

abbrev pub fault_of_kind : RefusalKind → Refusal → Fault
fault_of_kind kind.NoMemory r = NoMemory
fault_of_kind _ r = Query r

abbrev pub fault_of_refusal : Refusal → Fault
fault_of_refusal r = fault_of_kind r.kind r

abbrev pub fault_of_document : DocumentFault → Fault
fault_of_document document.NoMemory = NoMemory
fault_of_document f = Document f

abbrev pub selection_fault_of : EvaluationFault → SelectionFault
selection_fault_of evaluation.NoMemory = selection.NoMemory
selection_fault_of evaluation.StepsUsedUp = selection.StepsUsedUp
