-- For `decimal_told`.
use Rattle.jp_decimal.proofs.Told.{decimal-told}
use Rattle.jp_decimal.proofs.laws.decimal_told.Goals as goal

pub returns : goal.returns
returns c = decimal-told
