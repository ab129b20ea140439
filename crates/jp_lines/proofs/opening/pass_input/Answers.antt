use Rattle.std.proofs.Common.{refl}
use Rattle.jp_lines.specs.Private.Opening.{opened, unopened}
use Rattle.jp_lines.proofs.opening.pass_input.Goals as goal

pub returns-in-Ok : goal.returns-in-Ok
returns-in-Ok g c =
    opened c.in-Ok.input c.pass_all-ended.new.input c.pass_all-ended.result.1 c.in-Ok.ensures
    c.pass_all-ended.ensures c.cut_of.ensures

pub returns-in-Err : goal.returns-in-Err
returns-in-Err g c = unopened c.in-Err.why c.in-Err.ensures refl refl c.none.ensures refl
