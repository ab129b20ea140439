use Rattle.jp_lines.proofs.Showing.{shows-in_part}
use Rattle.jp_lines.proofs.program.show.Goals as goal

pub returns-in-Err : goal.returns-in-Err
returns-in-Err g c = shows-in_part _ _ _ _ _ _ _ _ _ _ _ c.in-Err.fault c.in-Err.ensures.written
    c.in-Err.ensures.stopped c.tell_unshown.ensures c.status.ensures
