use Rattle.std.proofs.Common.{refl}
use Rattle.jp_tree.specs.Views.{query_of}
use Rattle.jp_lines.specs.Program.{RunsJob, begun}
use Rattle.jp_lines.specs.Request.{SelectBy}
use Rattle.jp_lines.specs.Task.{Select}
use Rattle.jp_lines.specs.Views.{job_of}
use Rattle.jp_lines.proofs.Closings.{unread-query, written-nothing}
use Rattle.jp_lines.proofs.Ending.{err-so}
use Rattle.jp_lines.proofs.runs.run_selected.Goals as goal

pub returns-in_err-query : goal.returns-in_err-query
returns-in_err-query g c =
    err-so c.from_residual.result c.in_err-query.field-0.0
    (RunsJob g.I.Inputs.opens g.I.Input.Source.remaining g.I.Input.Source.has_failed
    g.I.Input.Source.read_gives g.W.Writer.contents g.W.Writer.has_failed g.W.Writer.write_takes g.W.Output.holds_back
    g.E.Writer.contents g.E.Writer.has_failed
    (record (job_of c.args.job.now) { request = SelectBy c.args.wanted c.args.extent c.args.text.now }) c.args.inputs.now c.args.inputs.now
    c.args.output.now c.args.output.now c.args.faults.now c.args.faults.now)
    c.from_residual.ensures.1
    (unread-query g.I.Inputs.opens g.I.Input.Source.remaining g.I.Input.Source.has_failed
    g.I.Input.Source.read_gives g.W.Writer.contents g.W.Writer.has_failed g.W.Writer.write_takes g.W.Output.holds_back
    g.E.Writer.contents g.E.Writer.has_failed (job_of c.args.job.now) c.args.inputs.now c.args.output.now
    c.args.faults.now c.args.wanted c.args.extent c.args.text.now c.in_err-query.field-0.0
    c.in_err-query.ensures.stopped)

pub returns : goal.returns
returns g c =
    let request = SelectBy c.args.wanted c.args.extent c.args.text.now in
    let q = query_of c.in_ok-query.query.query in
    begun (Select c.args.wanted c.args.extent q) c.run_task.result refl (q, refl, c.in_ok-query.ensures.read)
    (c.run_task.ensures c.args.output.now request
    (written-nothing g.W.Writer.contents g.W.Writer.has_failed c.args.output.now))
