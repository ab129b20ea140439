use Rattle.jp_document.proofs.Descent.Exact.{children_exact}
use Rattle.jp_document.proofs.laws.children_are_exact.Goals as goal

pub returns : goal.returns
returns c = children_exact
