use Rattle.jp_lines.specs.Program.{ended}
use Rattle.jp_lines.specs.Views.{job_of}
use Rattle.jp_lines.proofs.Closings.{ends-unbegun}
use Rattle.jp_lines.proofs.program.do_job.Goals as goal

pub returns-in-Ok : goal.returns-in-Ok
returns-in-Ok g c = λ words asks.
    ended c.in-Ok.ended c.run_job.new.faults
    (record { job = job_of c.args.job.now; asks = asks; runs = c.in-Ok.ensures }) c.close.ensures

pub returns-in-Err : goal.returns-in-Err
returns-in-Err g c = λ words asks.
    ends-unbegun g.I.Inputs.opens g.I.Input.Source.remaining g.I.Input.Source.has_failed
    g.I.Input.Source.read_gives g.W.Writer.contents g.W.Writer.has_failed g.W.Writer.write_takes g.W.Output.holds_back
    g.E.Writer.contents g.E.Writer.has_failed (job_of c.args.job.now) c.args.inputs.now c.run_job.new.inputs
    c.args.output.now c.run_job.new.output c.args.faults.now c.run_job.new.faults
    g.W.Writer.hung_up words c.in-Err.why c.status_of_unbegun.result c.tell_unbegun.new.faults asks
    c.in-Err.ensures c.status_of_unbegun.ensures c.tell_unbegun.ensures
