use Rattle.jp_evaluate.proofs.Nodelists.Sets.{counts_add_up}
use Rattle.jp_evaluate.proofs.laws.counts_add_up.Goals as goal

pub returns : goal.returns
returns c = counts_add_up
