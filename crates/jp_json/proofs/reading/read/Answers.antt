use Rattle.std.proofs.Common.{arith, refl}
use Rattle.jp_json.proofs.Readings.{read-moved}
use Rattle.jp_json.proofs.Staying.{read-run}
use Rattle.jp_json.proofs.reading.read.Goals as goal

pub characters-preserved : goal.characters-preserved
characters-preserved c =
    let moved = read-moved _ _ _ _ _ _ _ _ _ _ _ _ _ c.characters.invariant.read
    c.in-Some.ensures.parts.0
    refl
    c.characters.invariant.top_is
    c.step.ensures
    c.in-Ok.is
    c.in_ok-then.ensures in
    let run = c.behind_run.ensures.run in
    record {
      utf8 = c.behind_run.ensures.utf8;
      read = read-run _ _ _ _ _ _ _ _ moved.0 run
          (omega (arith, run.size, c.in-Some.ensures.parts.1, c.characters.invariant.within));
      top_is = moved.1;
      within = omega (arith, run.size, c.in-Some.ensures.parts.1, c.characters.invariant.within);
    }
