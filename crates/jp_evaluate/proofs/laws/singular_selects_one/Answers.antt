use Rattle.jp_evaluate.proofs.Nodelists.Standing.{singular_selects_one}
use Rattle.jp_evaluate.proofs.laws.singular_selects_one.Goals as goal

pub returns : goal.returns
returns c = singular_selects_one
