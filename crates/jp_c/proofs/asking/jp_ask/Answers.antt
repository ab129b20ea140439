use Rattle.std.proofs.Common.{option_map, subst, sym}
use Rattle.jp_c.specs.Asking.{AnswersLent, IsAskOutcome}
use Rattle.jp_c.specs.Handles.{kept_by}
use Rattle.jp_c.specs.Limit.{Within}
use Rattle.jp_c.proofs.asking.jp_ask.Goals as goal

pub returns-clause-answers : goal.returns-clause-answers
returns-clause-answers c =
    let a = c.args in
    let r = c.asked.result in
    subst (λ now. AnswersLent
    (Within a.limit.now (IsAskOutcome a.form a.from a.count (kept_by a.query.now) a.document.now)) now r.0 r.1
    r.1.status)
    (sym c.of_any.ensures)
    (subst (λ k. AnswersLent (Within a.limit.now (IsAskOutcome a.form a.from a.count k a.document.now))
    (option_map (λ b. b.value) c.asked.new.kept) r.0 r.1 r.1.status)
    c.take-kept.ensures.gives c.asked.ensures.answers)
