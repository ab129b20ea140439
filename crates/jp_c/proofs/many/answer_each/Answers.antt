use Rattle.std.proofs.Common.{◌+◌, ◌<◌, ◌≤◌, [], ap, arith, length, refl, set, string_bytes, subst}
use Rattle.std.proofs.Common.{sym, take}
use Rattle.std.proofs.lemmas.List.{take_all}
use Rattle.jp_c.specs.Many.{AnswersEach, none}
use Rattle.jp_c.specs.Private.Subjects.{IsAnswered}
use Rattle.jp_c.proofs.Questions.{question-answered, questions-left}
use Rattle.jp_c.proofs.QueriesRead.{read-at}
use Rattle.jp_c.proofs.many.answer_each.Goals as goal

pub loop-question-init : goal.loop-question-init
loop-question-init c =
    let subject = c.args.subject.now in
    record {
      answered = subst
          (AnswersEach
          (IsAnswered subject)
          c.args.queries.now [] [])
          (sym c.new-texts.ensures.bytes) none;
      rest = refl;
      counted = refl;
    }

pub loop-question-preserved : goal.loop-question-preserved
loop-question-preserved c =
    let subject = c.args.subject.now in
    let loop = c.loop-question in
    let i = loop.question-index in
    let step = c.answer_one.ensures in
    let new = c.answer_one.new.question in
    let within : i < length loop.questions =
    omega (arith, c.loop-question-test.true, loop.auto.questions)
    in
    record {
      answered = subst
          (AnswersEach
          (IsAnswered subject)
          c.args.queries.now (take (i + 1) c.args.questions.now)
          (take (i + 1) (set loop.questions i new)))
          (sym step.2)
          (question-answered _ _ c.args.questions.now loop.questions (string_bytes loop.texts) step.0 i _ new
          loop.invariant.answered loop.invariant.rest within step.1);
      rest = questions-left c.args.questions.now loop.questions i new loop.invariant.rest;
      counted = ap (λ n. n + 1) loop.invariant.counted;
    }

pub answer_one-requires-clause-read : goal.answer_one-requires-clause-read
answer_one-requires-clause-read c =
    let loop = c.loop-question in
    let i = loop.question-index in
    let within : i < length loop.questions =
    omega (arith, c.loop-question-test.true, loop.auto.questions)
    in
    read-at _ _ c.args.queries.now c.args.questions.now loop.questions c.args.reads.now loop.index i _
    c.get.result loop.invariant.counted c.get.ensures.lookup c.requires.read loop.invariant.rest within

pub returns : goal.returns
returns c =
    let subject = c.args.subject.now in
    let loop = c.loop-question in
    let i = loop.question-index in
    let olds : length c.args.questions.now ≤ i = omega (arith, c.loop-question-test.false) in
    let news : length loop.questions ≤ i =
    omega (arith, c.loop-question-test.false, loop.auto.questions)
    in
    subst
    (λ xs. AnswersEach
    (IsAnswered subject)
    c.args.queries.now xs loop.questions (string_bytes loop.texts))
    (take_all i c.args.questions.now olds)
    (subst
    (λ ys. AnswersEach
    (IsAnswered subject)
    c.args.queries.now (take i c.args.questions.now) ys (string_bytes loop.texts))
    (take_all i loop.questions news) loop.invariant.answered)
