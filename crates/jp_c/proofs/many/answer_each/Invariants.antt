use Rattle.std.proofs.Common.{◌≡◌, drop, string_bytes, take}
use Rattle.jp_c.specs.Many.{AnswersEach}
use Rattle.jp_c.specs.Private.Subjects.{IsAnswered}
use Rattle.jp_c.proofs.many.answer_each.Given as goal

-- the questions so far are answered, those to come are as they were, and their queries come next
abbrev pub invariant-loop-question : goal.invariant-loop-question
invariant-loop-question l = record {
  answered : AnswersEach (IsAnswered l.fn.subject) l.fn.queries (take l.question-index l.fn.questions) (take l.question-index l.questions)
      (string_bytes l.texts);
  rest : drop l.question-index l.questions ≡ drop l.question-index l.fn.questions;
  counted : l.index ≡ l.question-index;
}
