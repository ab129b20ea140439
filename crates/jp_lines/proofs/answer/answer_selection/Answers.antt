use Rattle.std.proofs.Common.{ap, length, subst}
use Rattle.jp_reading.specs.Characters.{tab}
use Rattle.jp_tree.specs.Views.{query_of}
use Rattle.jp_exact.specs.Defects.{IsDocumentFaultIn}
use Rattle.jp_check.specs.Numbers.{numbers}
use Rattle.jp_evaluate.specs.Plan.{IsReadToAnswer}
use Rattle.jp_lines.specs.Outcome.{lead_of}
use Rattle.jp_lines.specs.Task.{nodes_output, nodes_within}
use Rattle.jp_lines.specs.Views.{selection_task}
use Rattle.jp_lines.proofs.LineLemmas.{answers-same, refuses-document, stops-same}
use Rattle.jp_lines.proofs.answer.answer_selection.Goals as goal

pub returns-in-Ok-clause-answers : goal.returns-in-Ok-clause-answers
returns-in-Ok-clause-answers g c =
    let options = c.args.asked.options in
    let selection = c.args.selection in
    let q = query_of selection.query.now.query in
    let read : IsReadToAnswer (numbers options.profile) q c.args.line.now c.in-Ok.read =
    subst (λ n. IsReadToAnswer n q c.args.line.now c.in-Ok.read) c.numbers-numbers.ensures
    (c.in-Ok.ensures.ok q c.requires.plan) in
    answers-same g.W.Writer.contents g.W.Writer.has_failed options (selection_task selection)
    c.args.number c.args.line.now read.document c.args.output.now c.write_read-answer.new.output _ _
    c.requires.few c.requires.some read.is
    (ap (λ ns. length (nodes_within selection.extent ns)) read.same)
    (ap
    (λ ns. nodes_output selection.wanted (lead_of tab options.numbered c.args.number)
    (nodes_within selection.extent ns))
    read.same)
    c.write_read-answer.result c.write_read-answer.ensures.ok

pub returns-in-Ok-clause-stopped : goal.returns-in-Ok-clause-stopped
returns-in-Ok-clause-stopped g c =
    let options = c.args.asked.options in
    let selection = c.args.selection in
    let q = query_of selection.query.now.query in
    let read : IsReadToAnswer (numbers options.profile) q c.args.line.now c.in-Ok.read =
    subst (λ n. IsReadToAnswer n q c.args.line.now c.in-Ok.read) c.numbers-numbers.ensures
    (c.in-Ok.ensures.ok q c.requires.plan) in
    stops-same g.W.Writer.contents g.W.Writer.has_failed options (selection_task selection)
    c.args.number c.args.line.now read.document c.args.output.now c.write_read-answer.new.output _ _
    c.requires.few c.requires.some read.is
    (ap (λ ns. length (nodes_within selection.extent ns)) read.same)
    (ap
    (λ ns. nodes_output selection.wanted (lead_of tab options.numbered c.args.number)
    (nodes_within selection.extent ns))
    read.same)
    c.write_read-answer.result c.write_read-answer.ensures.stopped
    c.write_read-answer.ensures.within

pub returns-in-Err-clause-answers : goal.returns-in-Err-clause-answers
returns-in-Err-clause-answers g c = rw c.defect_of.ensures
    (refuses-document g.W.Writer.contents g.W.Writer.has_failed c.args.asked.options
    (selection_task c.args.selection) c.args.number c.args.line.now c.in-Err.fault
    c.args.output.now c.requires.few c.requires.some
    (subst (λ n. IsDocumentFaultIn n c.args.line.now c.in-Err.fault) c.numbers-numbers.ensures c.in-Err.ensures.fault)).0
