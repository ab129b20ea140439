use Rattle.jp_tree.proofs.EqualTrees.{Decides-queries}
use Rattle.jp_tree.proofs.laws.equal_queries.Goals as goal

pub returns : goal.returns
returns c = Decides-queries
