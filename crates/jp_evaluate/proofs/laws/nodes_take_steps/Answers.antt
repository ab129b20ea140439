use Rattle.jp_evaluate.proofs.Nodelists.Steps.{steps-law}
use Rattle.jp_evaluate.proofs.laws.nodes_take_steps.Goals as goal

pub returns : goal.returns
returns c = steps-law
