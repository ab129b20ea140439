-- For `one_form`.
use Rattle.jp_decimal.proofs.Unique.{one-normal}
use Rattle.jp_decimal.proofs.laws.one_form.Goals as goal

pub returns : goal.returns
returns c = one-normal
