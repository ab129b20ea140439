-- For `one_value`.
use Rattle.jp_decimal.proofs.OneValue.{one-value}
use Rattle.jp_decimal.proofs.laws.one_value.Goals as goal

pub returns : goal.returns
returns c = one-value
