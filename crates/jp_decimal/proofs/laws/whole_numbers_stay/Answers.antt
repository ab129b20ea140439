-- For `whole_numbers_stay`.
use Rattle.jp_decimal.proofs.WholeNumbers.{below-zero, from-zero}
use Rattle.jp_decimal.proofs.laws.whole_numbers_stay.Goals as goal

pub returns : goal.returns
returns c = record { from_zero = from-zero; below_zero = below-zero }
