-- For `each_number_writes`.
use Rattle.jp_decimal.proofs.Tokens.{number-writes}
use Rattle.jp_decimal.proofs.laws.each_number_writes.Goals as goal

pub returns : goal.returns
returns c = number-writes
