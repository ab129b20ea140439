use Rattle.std.proofs.Common.{refl, ◌∙◌}
use Rattle.jp_command.specs.declared.fault.Fault.TheVariants as fault
use Rattle.jp_lines.specs.Private.Passing.{standing}
use Rattle.jp_lines.specs.Views.{task_of}
use Rattle.jp_lines.specs.declared.stop.Stop.TheVariants as stop
use Rattle.jp_lines.proofs.LineLemmas.{err-is, over-line, stops-counting}
use Rattle.jp_lines.proofs.passing.end_line.Goals as goal

pub returns-in_err-progress-clause-stopped : goal.returns-in_err-progress-clause-stopped
returns-in_err-progress-clause-stopped g c =
    err-is c.from_residual.result c.in_err-progress.field-0.0 _ c.from_residual.ensures.1
    (λ line keeps. c.in_err-progress.ensures.stopped line (c.as_slice.ensures.value ∙ keeps.1))

pub returns-in_err-progress-2-clause-stopped : goal.returns-in_err-progress-2-clause-stopped
returns-in_err-progress-2-clause-stopped g c =
    err-is c.from_residual-in_err-progress-2.result (stop.Run fault.NoMemory) _
    c.from_residual-in_err-progress-2.ensures.1
    (λ line keeps. stops-counting c.args.asked.options c.args.asked.lead.now g.W.Writer.contents
    g.W.Writer.has_failed g.E.Writer.contents g.E.Writer.has_failed (task_of c.args.asked.task)
    c.args.progress.now.number line c.args.progress.now.tally c.in_ok-progress.field-0 _ _ _ _
    (c.in_ok-progress.ensures.treated line (c.as_slice.ensures.value ∙ keeps.1)))

pub returns-clause-ended : goal.returns-clause-ended
returns-clause-ended g c = λ line keeps. record {
  keeps = (refl, c.clear.ensures.items);
  over = over-line c.args.asked.options c.args.asked.lead.now g.W.Writer.contents
      g.W.Writer.has_failed g.E.Writer.contents g.E.Writer.has_failed (task_of c.args.asked.task)
      (standing c.args.progress.now line) _ _ _ _ _
      (c.in_ok-progress.ensures.treated line (c.as_slice.ensures.value ∙ keeps.1))
      c.in_ok-progress-2.ensures;
}
