use Rattle.std.proofs.Common.{◌∙◌, sym}
use Rattle.jp_c.proofs.Placed.{answer-told}
use Rattle.jp_c.proofs.exports.eval_outcome.Goals as goal

pub returns : goal.returns
returns c =
    let answer = c.answer-answer in
    answer-told c.args.limit c.args.form_number c.args.profile_number c.args.query.now
    c.args.document.now c.in-Some.form c.in-Some-profile.profile
    (sym c.form.ensures ∙ c.in-Some.is) (sym c.profile.ensures ∙ c.in-Some-profile.is)
    c.placed.result.steps answer.result c.within.result.outcome c.placed.result.outcome
    c.within.result.steps answer.ensures.answer answer.ensures.fault
    c.within.ensures.outcome c.within.ensures.makes c.placed.ensures.steps
    c.placed.ensures.outcome
