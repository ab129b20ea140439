use Rattle.jp_check.proofs.Extended.{whole-is_decimal}
use Rattle.jp_check.proofs.laws.whole_is_decimal.Goals as goal

pub returns : goal.returns
returns c = whole-is_decimal
