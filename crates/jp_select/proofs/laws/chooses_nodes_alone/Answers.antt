use Rattle.jp_select.proofs.Choosing.Nodes.{choosing_law}
use Rattle.jp_select.proofs.laws.chooses_nodes_alone.Goals as goal

pub returns : goal.returns
returns c = choosing_law
