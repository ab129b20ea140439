use Rattle.std.proofs.Common.{◌∙◌, ap, subst}
use Rattle.jp_exact.specs.Defects.{IsDocumentFaultIn}
use Rattle.jp_check.specs.Numbers.{numbers}
use Rattle.jp_evaluate.specs.Plan.{HoldsPortion}
use Rattle.jp_lines.specs.Outcome.{output_for}
use Rattle.jp_lines.specs.Task.{selected_in}
use Rattle.jp_lines.specs.Views.{task_of}
use Rattle.jp_lines.proofs.LineLemmas.{answers-same, refuses-document, stops-same}
use Rattle.jp_lines.proofs.Served.{served-selected, served-written}
use Rattle.jp_lines.proofs.answer.answer_document.Goals as goal

pub returns-in-Ok-clause-answers : goal.returns-in-Ok-clause-answers
returns-in-Ok-clause-answers g c =
    let options = c.args.asked.options in
    let task = task_of c.args.asked.task in
    let p = c.args.plan.now.portion in
    let read : HoldsPortion (numbers options.profile) p c.args.line.now c.in-Ok.flat =
    subst (λ n. HoldsPortion n p c.args.line.now c.in-Ok.flat) c.numbers-numbers.ensures c.in-Ok.ensures.ok in
    answers-same g.W.Writer.contents g.W.Writer.has_failed options task c.args.number
    c.args.line.now read.document c.args.output.now c.write_for-answer.new.output _ _
    c.requires.few c.requires.some read.is
    (ap (selected_in task) c.value.ensures
    ∙ served-selected (numbers options.profile) p c.args.line.now c.in-Ok.flat read task c.requires.plan)
    (ap (output_for options task c.args.number c.args.line.now) c.value.ensures
    ∙ served-written (numbers options.profile) p c.args.line.now c.in-Ok.flat read task _ c.args.line.now c.requires.plan)
    c.write_for-answer.result c.write_for-answer.ensures.ok

pub returns-in-Ok-clause-stopped : goal.returns-in-Ok-clause-stopped
returns-in-Ok-clause-stopped g c =
    let options = c.args.asked.options in
    let task = task_of c.args.asked.task in
    let p = c.args.plan.now.portion in
    let read : HoldsPortion (numbers options.profile) p c.args.line.now c.in-Ok.flat =
    subst (λ n. HoldsPortion n p c.args.line.now c.in-Ok.flat) c.numbers-numbers.ensures c.in-Ok.ensures.ok in
    stops-same g.W.Writer.contents g.W.Writer.has_failed options task c.args.number
    c.args.line.now read.document c.args.output.now c.write_for-answer.new.output _ _
    c.requires.few c.requires.some read.is
    (ap (selected_in task) c.value.ensures
    ∙ served-selected (numbers options.profile) p c.args.line.now c.in-Ok.flat read task c.requires.plan)
    (ap (output_for options task c.args.number c.args.line.now) c.value.ensures
    ∙ served-written (numbers options.profile) p c.args.line.now c.in-Ok.flat read task _ c.args.line.now c.requires.plan)
    c.write_for-answer.result c.write_for-answer.ensures.stopped c.write_for-answer.ensures.within

pub returns-in-Err-clause-answers : goal.returns-in-Err-clause-answers
returns-in-Err-clause-answers g c = rw c.defect_of.ensures
    (refuses-document g.W.Writer.contents g.W.Writer.has_failed c.args.asked.options
    (task_of c.args.asked.task) c.args.number c.args.line.now c.in-Err.fault
    c.args.output.now c.requires.few c.requires.some
    (subst (λ n. IsDocumentFaultIn n c.args.line.now c.in-Err.fault) c.numbers-numbers.ensures c.in-Err.ensures.fault)).0
