use Rattle.std.proofs.Common.{ap, refl, subst}
use Rattle.jp_c.specs.Outcome.{told_text}
use Rattle.jp_c.specs.Private.Subjects.{IsAnswered}
use Rattle.jp_c.proofs.Outcomes.{kept_or_none}
use Rattle.jp_c.proofs.many.answer_one.Goals as goal

pub returns : goal.returns
returns c =
    let told = c.told_behind-answered.result in
    let subject = c.args.subject.now in
    let question = c.args.question.now in
    let steps = c.told_behind-answered.ensures.steps in
    let kept = kept_or_none subject.limit subject.form subject.profile c.part-query.result.now
    subject.document.now c.outcome.result.outcome told.outcome c.outcome.result.steps
    c.outcome.ensures c.told_behind-answered.ensures.is
    in (
      told_text told.outcome,
      record {
        o = told.outcome;
        made = told.steps;
        is = subst (λ query. IsAnswered subject query told.outcome told.steps) c.part-query.ensures
            (rw steps kept);
        reports = ap
            (λ r. record { start = question.start; size = question.size; report = r })
            c.report-question.ensures;
        tells = refl;
      },
      c.told_behind-answered.ensures.told,
    )
