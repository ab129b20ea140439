use Rattle.std.proofs.Common.{[], refl}
use Rattle.jp_tree.specs.Views.{query_of}
use Rattle.jp_command.specs.declared.fault.Fault.TheVariants as fault
use Rattle.jp_lines.specs.Outcome.{tally_of}
use Rattle.jp_lines.specs.Private.Asking.{RunsAsked}
use Rattle.jp_lines.specs.Task.{Select}
use Rattle.jp_lines.specs.declared.stop.Stop.TheVariants as stop
use Rattle.jp_lines.proofs.Asking.{goes-asked}
use Rattle.jp_lines.proofs.Ending.{err-so, runs-stop_unread}
use Rattle.jp_lines.proofs.run.run_selected.Goals as goal

pub returns-in_err-plan : goal.returns-in_err-plan
returns-in_err-plan g c = λ request asked.
    let task = Select c.args.wanted c.args.extent (query_of c.args.query.now.query) in
    err-so c.from_residual.result (stop.Run fault.NoMemory)
    (RunsAsked c.args.options g.R.Source.remaining g.R.Source.has_failed
    g.R.Source.read_gives g.W.Writer.contents g.W.Writer.has_failed g.E.Writer.contents
    g.E.Writer.has_failed request c.args.input.now c.args.input.now
    c.args.output.now c.args.output.now c.args.faults.now c.args.faults.now)
    c.from_residual.ensures.1 (
      tally_of [],
      goes-asked c.args.options g.R.Source.remaining g.R.Source.has_failed
          g.R.Source.read_gives g.W.Writer.contents g.W.Writer.has_failed g.E.Writer.contents
          g.E.Writer.has_failed request _ _ _ _ _ _ [] task _ _ refl asked
          (runs-stop_unread c.args.options [] g.R.Source.remaining g.R.Source.has_failed
          g.R.Source.read_gives g.W.Writer.contents g.W.Writer.has_failed g.E.Writer.contents
          g.E.Writer.has_failed task c.args.input.now c.args.output.now c.args.faults.now),
    )
