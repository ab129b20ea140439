use Rattle.jp_json.proofs.Readings.{whole-bytes}
use Rattle.jp_json.proofs.scalars.is_text.Goals as goal

pub returns-in-Whole : goal.returns-in-Whole
returns-in-Whole c = λ _. (
  c.in-Ok.ensures.cases.1,
  whole-bytes _ _ c.in_ok-read-in-Ok.field-0 c.in-Ok.ensures.cases.0 c.in_ok-read-in-Ok.ensures
      c.in-Whole.is,
)
