use Rattle.jp_json.proofs.Readings.{moved-closed}
use Rattle.jp_json.proofs.reading.moved.Goals as goal

pub returns-in-Some : goal.returns-in-Some
returns-in-Some c =
    (moved-closed _ _ _ _ c.in-Close.is c.in-Some.ensures.levels c.close.ensures.within, c.top.ensures)
