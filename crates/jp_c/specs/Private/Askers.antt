-- What is asked with a kept query, and how it is told. The clauses of `Asker` cite it.
use Rattle.std.specs.Prelude.{◌≡◌, ℕ, Option, Some, length, string_bytes}
use Rattle.std.specs.String.{string_vec}
use Rattle.std.specs.Vec.{vec_ptr}
use Rattle.jp_limit.specs.declared.output_limit.OutputLimit.{OutputLimit}
use Rattle.jp_c.specs.Asking.{AnswersLent, IsAskDocumentOutcome, IsAskOutcome}
use Rattle.jp_c.specs.Handles.{document_kept, numbers_kept, profile_kept, query_kept}
use Rattle.jp_c.specs.declared.asking.Given.{Given}
use Rattle.jp_c.specs.declared.asking.Given.TheVariants as given
use Rattle.jp_c.specs.declared.kept.Asker.{Asker}
use Rattle.jp_c.specs.declared.kept.Kept.{Kept}
use Rattle.jp_c.specs.declared.kept.Kept.TheVariants as kept
use Rattle.jp_c.specs.declared.lent.Lent.{Lent}
use Rattle.jp_c.specs.declared.outcome.Outcome as outcome
use Rattle.jp_c.specs.declared.outcome.Report.{Report}

-- the text that is kept with the query is lent
pub record LendsText (a : Asker) (lent : Lent) : Type 0 where
  pub start : lent.start ≡ vec_ptr (string_vec a.memory.text)
  pub length : lent.length ≡ length (string_bytes a.memory.text)

-- of what is asked
abbrev pub IsAskedOutcome : ℕ → ℕ → ℕ → Given → Option Kept → OutputLimit → outcome.Outcome → Type 0
IsAskedOutcome form from count (given.Bytes bytes) query most o =
    IsAskOutcome form from count query bytes.now most o
IsAskedOutcome form from count (given.Document d) query most o =
    IsAskDocumentOutcome form from count query (Some (kept.Document d.now)) most o

-- what is kept has such an outcome, which is told and lent, and still has its query in its profile, or its document
-- with its numbers
pub record Asks (IsOutcome : Option Kept → outcome.Outcome → ℕ → Type 0) (old new : Option Kept)
    (lent : Lent) (report : Report) : Type 0 where
  pub answers : AnswersLent (IsOutcome old) new lent report report.status
  pub query : query_kept new ≡ query_kept old
  pub profile : profile_kept new ≡ profile_kept old
  pub document : document_kept new ≡ document_kept old
  pub numbers : numbers_kept new ≡ numbers_kept old
