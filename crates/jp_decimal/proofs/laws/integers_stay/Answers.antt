-- For `integers_stay`.
use Rattle.jp_decimal.proofs.Told.{integers-stay}
use Rattle.jp_decimal.proofs.laws.integers_stay.Goals as goal

pub returns : goal.returns
returns c = integers-stay
