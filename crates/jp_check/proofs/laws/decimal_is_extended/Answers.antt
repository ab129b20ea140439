use Rattle.jp_check.proofs.Extended.{decimal-is_extended}
use Rattle.jp_check.proofs.laws.decimal_is_extended.Goals as goal

pub returns : goal.returns
returns c = decimal-is_extended
