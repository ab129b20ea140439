use Rattle.jp_evaluate.proofs.Nodelists.Sides.{sides_law}
use Rattle.jp_evaluate.proofs.laws.names_rise_in_sides.Goals as goal

pub returns : goal.returns
returns c = sides_law
