use Rattle.std.proofs.Common.{option_map, subst, sym}
use Rattle.jp_c.specs.Asking.{AnswersLent, IsAskDocumentOutcome}
use Rattle.jp_c.specs.Handles.{kept_by}
use Rattle.jp_c.specs.Limit.{Within}
use Rattle.jp_c.proofs.asking.jp_ask_document.Goals as goal

pub returns-clause-answers : goal.returns-clause-answers
returns-clause-answers c =
    let a = c.args in
    let r = c.asked_of_other.result in
    subst (λ now. AnswersLent
    (Within a.limit.now (IsAskDocumentOutcome a.form a.from a.count (kept_by a.query.now) (kept_by a.document.now)))
    now r.0 r.1 r.1.status)
    (sym c.of_any.ensures)
    (subst (λ d. AnswersLent
    (Within a.limit.now (IsAskDocumentOutcome a.form a.from a.count (kept_by a.query.now) d))
    (option_map (λ b. b.value) c.asked_of_other.new.kept) r.0 r.1 r.1.status)
    c.take-other.ensures.gives
    (subst (λ k. AnswersLent
    (Within a.limit.now (IsAskDocumentOutcome a.form a.from a.count k (option_map (λ b. b.value) c.take-other.result)))
    (option_map (λ b. b.value) c.asked_of_other.new.kept) r.0 r.1 r.1.status)
    c.take-kept.ensures.gives c.asked_of_other.ensures.answers))
