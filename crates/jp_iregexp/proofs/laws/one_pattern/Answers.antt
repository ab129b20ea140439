use Rattle.jp_iregexp.proofs.WholeTexts.{one_pattern}
use Rattle.jp_iregexp.proofs.laws.one_pattern.Goals as goal

pub returns : goal.returns
returns c = one_pattern
