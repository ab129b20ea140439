-- What a call leaves for C: the numbers of its outcome, and the text where there is room for it.
use Rattle.std.specs.Prelude.{◌≡◌, ℕ, nat_le, if◌then◌else◌, List, [], ◌++◌, length, drop}
use Rattle.std.specs.Prelude.{string_bytes}
use Rattle.jp_document.specs.Faults.{document_fault_number}
use Rattle.jp_document.specs.declared.fault.DocumentFault.TheVariants.{NotWhole, NumberRange}
use Rattle.jp_query.specs.Refusal.{number_of}
use Rattle.jsonpath.specs.declared.fault.FindFault.TheVariants as find
use Rattle.jp_c.specs.declared.outcome.Outcome as outcome
use Rattle.jp_c.specs.declared.outcome.Outcome.TheVariants.{Text, Usage, Fault, Misread, OtherNumbers}
use Rattle.jp_c.specs.declared.outcome.Report.{Report}

-- the status, by which a caller tells what happened
abbrev pub status_of : outcome.Outcome → ℕ
status_of (Text text) = 0
status_of (Fault (find.Query r)) = 1
status_of Usage = 2
status_of (Fault (find.Document f)) = 3
status_of (Misread f place) = 3
status_of (Fault find.DocumentTooLarge) = 3
status_of (Fault find.NoMemory) = 4
status_of (Fault find.StepsUsedUp) = 10
status_of (Fault find.TooManyNodes) = 8
status_of (Fault find.TooManyBytes) = 9
status_of OtherNumbers = 11

-- the number of a query's refusal or of a document's fault, of which that it is too large is the next
-- after those of its bytes
abbrev pub kind_of : outcome.Outcome → ℕ
kind_of (Fault (find.Query r)) = number_of r.kind
kind_of (Fault (find.Document f)) = document_fault_number f
kind_of (Misread f place) = document_fault_number f
kind_of (Fault find.DocumentTooLarge) = 6
kind_of _ = 0

-- the byte of the query or of the document at which it is refused
abbrev pub place_of : outcome.Outcome → ℕ
place_of (Fault (find.Query r)) = r.place
place_of (Misread f place) = place
place_of _ = 0

-- the text: what was asked for, or the path of the first number that is not whole or out of
-- range
abbrev pub told_text : outcome.Outcome → List ℕ
told_text (Text text) = string_bytes text
told_text (Fault (find.Document (NotWhole path))) = string_bytes path
told_text (Misread (NotWhole path) place) = string_bytes path
told_text (Fault (find.Document (NumberRange path))) = string_bytes path
told_text (Misread (NumberRange path) place) = string_bytes path
told_text _ = []

-- the report of an outcome for which so many steps were made
abbrev pub report_of : outcome.Outcome → ℕ → Report
report_of o made = record {
  status = status_of o;
  kind = kind_of o;
  place = place_of o;
  length = length (told_text o);
  steps = made;
}

-- a buffer after a text was written to its start, or as it was where there is no room for all of it
abbrev pub filled : List ℕ → List ℕ → List ℕ
filled text old = if nat_le (length text) (length old) then text ++ drop (length text) old else old

-- the status, the report and the buffer, which was `old` and is `new`, are those of the outcome,
-- for which so many steps were made
pub record ReportsOutcome (o : outcome.Outcome) (made : ℕ) (old new : List ℕ) (report : Report)
    (status : ℕ) : Type 0 where
  pub reports : report ≡ report_of o made
  pub answers : status ≡ status_of o
  pub fills : new ≡ filled (told_text o) old

-- a call has an outcome of that kind, by the steps that are made for it, and tells both
pub record Answers (IsOutcome : outcome.Outcome → ℕ → Type 0) (old new : List ℕ) (report : Report)
    (status : ℕ) : Type 0 where
  pub o : outcome.Outcome
  pub made : ℕ
  pub is : IsOutcome o made
  pub tells : ReportsOutcome o made old new report status
