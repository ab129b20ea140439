use Rattle.jp_evaluate.proofs.Nodelists.Standing.{selects_nodes_alone}
use Rattle.jp_evaluate.proofs.laws.selects_nodes_alone.Goals as goal

pub returns : goal.returns
returns c = selects_nodes_alone
