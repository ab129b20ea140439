use Rattle.jp_check.proofs.Extended.{standard-is_extended}
use Rattle.jp_check.proofs.laws.standard_is_extended.Goals as goal

pub returns : goal.returns
returns c = standard-is_extended
