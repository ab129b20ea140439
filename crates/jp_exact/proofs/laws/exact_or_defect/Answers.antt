use Rattle.jp_exact.proofs.Defects.{exact-or-defect}
use Rattle.jp_exact.proofs.laws.exact_or_defect.Goals as goal

pub returns : goal.returns
returns c = exact-or-defect
