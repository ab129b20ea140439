use Rattle.std.proofs.Common.{refl}
use Rattle.std.specs.Prelude.{⊤}
use Rattle.jp_command.proofs.Helped.{shown-ends, stopped-ends}
use Rattle.jp_command.proofs.line.show.Goals as goal

pub returns-in-Ok : goal.returns-in-Ok
returns-in-Ok g c = shown-ends _ _ _ _ _ _ _ _ _ _ (tt {0}) refl refl c.in-Ok.ensures.calls
    c.in-Ok.ensures.handed_on

pub returns-in-Err : goal.returns-in-Err
returns-in-Err g c = stopped-ends _ _ _ _ _ _ _ _ _ _ ⊤ c.in-Err.fault c.status.ensures
    c.in-Err.ensures.stopped c.in-Err.ensures.calls c.report.ensures
