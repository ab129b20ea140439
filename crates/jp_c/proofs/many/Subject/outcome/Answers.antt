use Rattle.std.proofs.Common.{◌∙◌, IfSome, ap, subst, sym}
use Rattle.jp_check.specs.Numbers.{numbers}
use Rattle.jp_c.specs.Private.Subjects.{IsReadIn, IsReadToServe, numbers_in}
use Rattle.jp_c.proofs.Placed.{answer-told}
use Rattle.jp_c.proofs.QueriesRead.{read-answers}
use Rattle.jp_c.proofs.many.Subject.outcome.Goals as goal

pub answer_from-answer-requires-clause-asked : goal.answer_from-answer-requires-clause-asked
answer_from-answer-requires-clause-asked c =
    let self = c.args.self.now in
    let read = subst
    (λ o. IfSome o (λ r. IsReadToServe self.profile self.plan.now.portion c.args.query.now r.now))
    c.in-Some-read.is c.requires.read in
    read.is c.in-Some-profile.profile (sym c.profile.ensures ∙ c.in-Some-profile.is)

pub answer_from-answer-requires-clause-document : goal.answer_from-answer-requires-clause-document
answer_from-answer-requires-clause-document c =
    let self = c.args.self.now in
    let read = subst
    (λ o. IfSome o (λ r. IsReadToServe self.profile self.plan.now.portion c.args.query.now r.now))
    c.in-Some-read.is c.requires.read in
    let is = sym c.profile.ensures ∙ c.in-Some-profile.is in
    let sound = subst (λ n. IsReadIn n self) (ap numbers_in is) c.requires.sound in
    read-answers (numbers c.in-Some-profile.profile) c.in-Some-read.asked.now self.plan.now.portion self.document.now
    self.read read.serves sound.tables

pub answer_from-answer-requires-clause-fault : goal.answer_from-answer-requires-clause-fault
answer_from-answer-requires-clause-fault c =
    let is = sym c.profile.ensures ∙ c.in-Some-profile.is in
    (subst (λ n. IsReadIn n c.args.self.now) (ap numbers_in is) c.requires.sound).fault

pub placed-requires-clause-known : goal.placed-requires-clause-known
placed-requires-clause-known c =
    let is = sym c.profile.ensures ∙ c.in-Some-profile.is in
    (subst (λ n. IsReadIn n c.args.self.now) (ap numbers_in is) c.requires.sound).place

pub returns : goal.returns
returns c =
    let self = c.args.self.now in
    let answer = c.answer_from-answer in
    let within = c.within-answered in
    answer-told self.limit self.form self.profile c.args.query.now self.document.now
    c.in-Some.form c.in-Some-profile.profile (sym c.form.ensures ∙ c.in-Some.is)
    (sym c.profile.ensures ∙ c.in-Some-profile.is) c.placed.result.steps answer.result
    within.result.outcome c.placed.result.outcome within.result.steps
    answer.ensures.answer answer.ensures.fault within.ensures.outcome within.ensures.makes
    c.placed.ensures.steps c.placed.ensures.outcome
