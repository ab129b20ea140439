use Rattle.jp_select.proofs.Comparisons.EqualValues.{equality_law}
use Rattle.jp_select.proofs.laws.equals_is_exact.Goals as goal

pub returns : goal.returns
returns c = equality_law
