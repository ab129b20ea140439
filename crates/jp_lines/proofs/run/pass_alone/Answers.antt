use Rattle.jp_lines.specs.Views.{task_of}
use Rattle.jp_lines.proofs.Asking.{goes-asked}
use Rattle.jp_lines.proofs.run.pass_alone.Goals as goal

pub returns-in-Ok : goal.returns-in-Ok
returns-in-Ok g c = λ request asked.
    goes-asked c.args.asked.options g.R.Source.remaining g.R.Source.has_failed
    g.R.Source.read_gives g.W.Writer.contents g.W.Writer.has_failed g.E.Writer.contents
    g.E.Writer.has_failed request _ _ _ _ _ _ c.args.asked.lead.now (task_of c.args.asked.task) _ _
    c.requires.alone asked (rw c.in-Ok.is at c.pass_all-ended.ensures)

pub returns-in-Err : goal.returns-in-Err
returns-in-Err g c = λ request asked. (
  c.pass_all-ended.result.0,
  goes-asked c.args.asked.options g.R.Source.remaining g.R.Source.has_failed
      g.R.Source.read_gives g.W.Writer.contents g.W.Writer.has_failed g.E.Writer.contents
      g.E.Writer.has_failed request _ _ _ _ _ _ c.args.asked.lead.now (task_of c.args.asked.task) _ _
      c.requires.alone asked (rw c.in-Err.is at c.pass_all-ended.ensures),
)
