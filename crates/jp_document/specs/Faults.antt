-- The numbers, names and texts of the reasons why bytes are no document, and a text no path: for
-- `DocumentFault` and `PathFault`.
use Rattle.std.specs.Prelude.{ℕ, List, ◌++◌, codes, string_bytes}
use Rattle.jp_document.specs.declared.fault.DocumentFault.{DocumentFault}
use Rattle.jp_document.specs.declared.fault.DocumentFault.TheVariants as document
use Rattle.jp_document.specs.declared.path_fault.PathFault.{PathFault}
use Rattle.jp_document.specs.declared.path_fault.PathFault.TheVariants as path

-- the number of a document's refusal
abbrev pub document_fault_number : DocumentFault → ℕ
document_fault_number document.NotJson = 1
document_fault_number (document.NotWhole text) = 2
document_fault_number document.ListTooLong = 3
document_fault_number document.NoMemory = 4
document_fault_number (document.NumberRange path) = 5

-- its name
abbrev pub document_fault_name : DocumentFault → List ℕ
document_fault_name document.NotJson = codes "NotJson"
document_fault_name (document.NotWhole path) = codes "NotWhole"
document_fault_name document.ListTooLong = codes "ListTooLong"
document_fault_name document.NoMemory = codes "NoMemory"
document_fault_name (document.NumberRange path) = codes "NumberRange"

-- what it says of itself: its name, and of a number that is not whole or out of range also its path
abbrev pub document_fault_text : DocumentFault → List ℕ
document_fault_text document.NotJson = codes "NotJson"
document_fault_text (document.NotWhole path) =
    codes "NotWhole" ++ (codes " at " ++ string_bytes path)
document_fault_text document.ListTooLong = codes "ListTooLong"
document_fault_text document.NoMemory = codes "NoMemory"
document_fault_text (document.NumberRange path) =
    codes "NumberRange" ++ (codes " at " ++ string_bytes path)

-- the number of a path's refusal
abbrev pub path_fault_number : PathFault → ℕ
path_fault_number path.NotNormalized = 1
path_fault_number path.IndexRange = 2
path_fault_number path.NoMemory = 3

-- its name
abbrev pub path_fault_name : PathFault → List ℕ
path_fault_name path.NotNormalized = codes "NotNormalized"
path_fault_name path.IndexRange = codes "IndexRange"
path_fault_name path.NoMemory = codes "NoMemory"
