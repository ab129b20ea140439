-- For `equal_numbers`.
use Rattle.jp_decimal.proofs.Unique.{Decides-same}
use Rattle.jp_decimal.proofs.laws.equal_numbers.Goals as goal

pub returns : goal.returns
returns c = Decides-same
