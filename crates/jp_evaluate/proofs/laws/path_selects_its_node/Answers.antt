use Rattle.jp_evaluate.proofs.Paths.LocationLaws.{path_selects_its_node}
use Rattle.jp_evaluate.proofs.laws.path_selects_its_node.Goals as goal

pub returns : goal.returns
returns c = path_selects_its_node
