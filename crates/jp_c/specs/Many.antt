-- Many queries over one document: which query each question asks, and what all of them leave for C.
use Rattle.std.specs.Prelude.{◌≡◌, ℕ, List, [], ◌∷◌, ◌++◌, take, drop, length}
use Rattle.jp_c.specs.Outcome.{filled, report_of, told_text}
use Rattle.jp_c.specs.declared.many.Question.{Question}
use Rattle.jp_c.specs.declared.outcome.Outcome as outcome

-- the query that a question asks: of these bytes those from its start on, as many as it says
abbrev pub query_asked : List ℕ → Question → List ℕ
query_asked bytes q = take q.size (drop q.start bytes)

-- the query has an outcome of that kind, by the steps that are made for it alone, whose report the
-- question gets, and whose text this is
pub record AnswersOne (IsOutcome : List ℕ → outcome.Outcome → ℕ → Type 0) (bytes : List ℕ)
    (old new : Question) (text : List ℕ) : Type 0 where
  pub o : outcome.Outcome
  pub made : ℕ
  pub is : IsOutcome (query_asked bytes old) o made
  pub reports : new ≡ record { start = old.start; size = old.size; report = report_of o made }
  pub tells : text ≡ told_text o

-- each question is answered so, and the texts stand one after another
pub data AnswersEach (IsOutcome : List ℕ → outcome.Outcome → ℕ → Type 0) (bytes : List ℕ)
    : List Question → List Question → List ℕ → Type 0 where
  none : AnswersEach IsOutcome bytes [] [] []
  next : {olds news : List Question} {texts : List ℕ}
      → AnswersEach IsOutcome bytes olds news texts
      → (old new : Question) (text : List ℕ) → AnswersOne IsOutcome bytes old new text
      → AnswersEach IsOutcome bytes (olds ++ old ∷ []) (news ++ new ∷ []) (texts ++ text)

-- a call answers all questions; the buffer, which was `before` and is `after`, gets their texts
-- where there is room for all of them, and `size` is how many bytes they have
pub record AnswersAll (IsOutcome : List ℕ → outcome.Outcome → ℕ → Type 0) (bytes : List ℕ)
    (olds news : List Question) (before after : List ℕ) (size : ℕ) : Type 0 where
  pub texts : List ℕ
  pub each : AnswersEach IsOutcome bytes olds news texts
  pub fills : after ≡ filled texts before
  pub counts : size ≡ length texts
