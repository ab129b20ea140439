use Rattle.std.proofs.Common.{refl}
use Rattle.jp_tree.specs.Views.{expr_of}
use Rattle.jp_lines.specs.Program.{RunsJob, begun}
use Rattle.jp_lines.specs.Request.{KeepBy}
use Rattle.jp_lines.specs.Task.{Keep}
use Rattle.jp_lines.specs.Views.{job_of}
use Rattle.jp_lines.proofs.Closings.{unread-expression, written-nothing}
use Rattle.jp_lines.proofs.Ending.{err-so}
use Rattle.jp_lines.proofs.runs.run_kept.Goals as goal

pub returns-in_err-filter : goal.returns-in_err-filter
returns-in_err-filter g c =
    err-so c.from_residual.result c.in_err-filter.field-0.0
    (RunsJob g.I.Inputs.opens g.I.Input.Source.remaining g.I.Input.Source.has_failed
    g.I.Input.Source.read_gives g.W.Writer.contents g.W.Writer.has_failed g.W.Writer.write_takes g.W.Output.holds_back
    g.E.Writer.contents g.E.Writer.has_failed
    (record (job_of c.args.job.now) { request = KeepBy c.args.text.now }) c.args.inputs.now c.args.inputs.now
    c.args.output.now c.args.output.now c.args.faults.now c.args.faults.now)
    c.from_residual.ensures.1
    (unread-expression g.I.Inputs.opens g.I.Input.Source.remaining g.I.Input.Source.has_failed
    g.I.Input.Source.read_gives g.W.Writer.contents g.W.Writer.has_failed g.W.Writer.write_takes g.W.Output.holds_back
    g.E.Writer.contents g.E.Writer.has_failed (job_of c.args.job.now) c.args.inputs.now c.args.output.now
    c.args.faults.now c.args.text.now c.in_err-filter.field-0.0 c.in_err-filter.ensures.stopped)

pub returns : goal.returns
returns g c =
    let e = expr_of c.in_ok-filter.filter.expr in
    begun (Keep e) c.run_task.result refl (e, refl, c.in_ok-filter.ensures.read)
    (c.run_task.ensures c.args.output.now (KeepBy c.args.text.now)
    (written-nothing g.W.Writer.contents g.W.Writer.has_failed c.args.output.now))
