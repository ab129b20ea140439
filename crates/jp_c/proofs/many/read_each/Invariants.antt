use Rattle.std.proofs.Common.{◌≡◌, length}
use Rattle.jp_c.specs.Private.Subjects.{AreRead}
use Rattle.jp_c.proofs.many.read_each.Given as goal

-- the queries of the questions so far were read, and the plan serves them
abbrev pub invariant-loop-question : goal.invariant-loop-question
invariant-loop-question l = record {
  read : AreRead l.fn.profile l.plan.portion l.fn.queries l.fn.questions l.reads.items;
  counted : length l.reads.items ≡ l.question-index;
}
