-- For `one_order`.
use Rattle.jp_decimal.proofs.Total.{scaled_cmp-total}
use Rattle.jp_decimal.proofs.laws.one_order.Goals as goal

pub returns : goal.returns
returns c = scaled_cmp-total
