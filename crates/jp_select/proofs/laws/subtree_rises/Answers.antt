use Rattle.jp_select.proofs.Rising.{subtree_law}
use Rattle.jp_select.proofs.laws.subtree_rises.Goals as goal

pub returns : goal.returns
returns c = subtree_law
