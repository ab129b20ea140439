use Rattle.jp_iregexp.proofs.EqualTrees.{Decides-pattern}
use Rattle.jp_iregexp.proofs.laws.equal_patterns.Goals as goal

pub returns : goal.returns
returns c = Decides-pattern
