use Rattle.std.proofs.Common.{refl, sym}
use Rattle.jp_lines.specs.Outcome.{too_large}
use Rattle.jp_lines.specs.Views.{task_of}
use Rattle.jp_lines.proofs.LineLemmas.{answers-blank}
use Rattle.jp_lines.proofs.answer.answer.Goals as goal

pub returns-then-line-gt-DOCUMENT_LIMIT-clause-answers :
    goal.returns-then-line-gt-DOCUMENT_LIMIT-clause-answers
returns-then-line-gt-DOCUMENT_LIMIT-clause-answers g c =
    (too_large c.if-line-gt-DOCUMENT_LIMIT.true, refl)

pub returns-then-is_blank_line-clause-answers : goal.returns-then-is_blank_line-clause-answers
returns-then-is_blank_line-clause-answers g c =
    answers-blank g.W.Writer.contents g.W.Writer.has_failed c.args.asked.options
    (task_of c.args.asked.task) c.args.number c.args.line.now c.args.output.now
    c.if-line-gt-DOCUMENT_LIMIT.false (sym c.if-is_blank_line.ensures)
