-- For `written_back`.
use Rattle.jp_decimal.proofs.ReadBack.{writes-number}
use Rattle.jp_decimal.proofs.laws.written_back.Goals as goal

pub returns : goal.returns
returns c = writes-number
