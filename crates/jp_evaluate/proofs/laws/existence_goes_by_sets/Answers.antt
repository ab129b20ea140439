use Rattle.jp_evaluate.proofs.Nodelists.Sets.{existence_goes_by_sets}
use Rattle.jp_evaluate.proofs.laws.existence_goes_by_sets.Goals as goal

pub returns : goal.returns
returns c = existence_goes_by_sets
