use Rattle.jp_command.specs.declared.fault.Fault.TheVariants as fault
use Rattle.jp_command.specs.declared.selection_fault.SelectionFault.TheVariants as selection
use Rattle.jp_lines.proofs.LineLemmas.{err-is, stops-made}
use Rattle.jp_lines.proofs.wanted.write_wanted_at.Goals as goal

pub returns-in_err-set_lead-clause-stopped : goal.returns-in_err-set_lead-clause-stopped
returns-in_err-set_lead-clause-stopped g c =
    err-is c.from_residual.result fault.NoMemory _ c.from_residual.ensures.1
    (stops-made g.W.Writer.contents g.W.Writer.has_failed selection.NoMemory 0 _ c.args.output.now)

pub returns-in_err-push_found_behind-in-Nodes-clause-stopped :
    goal.returns-in_err-push_found_behind-in-Nodes-clause-stopped
returns-in_err-push_found_behind-in-Nodes-clause-stopped g c =
    err-is c.from_residual-in_err-push_found_behind-in-Nodes.result fault.NoMemory _
    c.from_residual-in_err-push_found_behind-in-Nodes.ensures.1
    (stops-made g.W.Writer.contents g.W.Writer.has_failed selection.NoMemory 0 _ c.args.output.now)
