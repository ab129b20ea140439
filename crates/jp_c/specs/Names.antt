-- The names of the kinds that a report may have.
use Rattle.std.specs.Prelude.{◌≡◌, ℕ, List, codes}
use Rattle.jp_document.specs.Faults.{document_fault_name, document_fault_number}
use Rattle.jp_document.specs.declared.fault.DocumentFault.{DocumentFault}
use Rattle.jp_query.specs.Refusal.{name_of, number_of}
use Rattle.jp_query.specs.declared.refusal.RefusalKind.{RefusalKind}

-- beside that status the kind of that number has this name: of a query's refusal, of a document's
-- fault, or of a document that is too large
pub data IsKindName (status number : ℕ) (name : List ℕ) : Type 0 where
  of_query : (kind : RefusalKind) → status ≡ 1 → number_of kind ≡ number → name ≡ name_of kind
      → IsKindName status number name
  of_document : (fault : DocumentFault) → status ≡ 3 → document_fault_number fault ≡ number
      → name ≡ document_fault_name fault → IsKindName status number name
  too_large : status ≡ 3 → number ≡ 6 → name ≡ codes "DocumentTooLarge"
      → IsKindName status number name
