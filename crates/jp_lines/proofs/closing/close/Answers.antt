use Rattle.std.proofs.Common.{subst}
use Rattle.jp_command.specs.Line.{fault_line}
use Rattle.jp_command.specs.declared.fault.Fault.TheVariants.{NoMemory}
use Rattle.jp_lines.specs.Program.{TellsLine, told, untold}
use Rattle.jp_lines.proofs.closing.close.Goals as goal

pub returns-in-Ok : goal.returns-in-Ok
returns-in-Ok g c =
    told c.tell_end.new.faults (c.is_unheard.ensures.heard c.if-is_unheard.false)
    c.status_of_end.ensures c.tell_end.ensures c.in-Ok.ensures.told

pub returns-in-Err : goal.returns-in-Err
returns-in-Err g c =
    untold c.tell_end.new.faults (c.is_unheard.ensures.heard c.if-is_unheard.false)
    c.in-Err.ensures.asked c.status-in-Err.ensures c.tell_end.ensures
    (subst (λ u. TellsLine g.E.Writer.contents g.E.Writer.has_failed (fault_line NoMemory) u
    c.tell_fault.new.faults) c.in-Err.ensures.silent c.tell_fault.ensures)
