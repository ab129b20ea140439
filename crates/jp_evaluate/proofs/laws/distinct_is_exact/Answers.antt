use Rattle.jp_evaluate.proofs.Nodelists.Repeats.{distinct_law}
use Rattle.jp_evaluate.proofs.laws.distinct_is_exact.Goals as goal

pub returns : goal.returns
returns c = distinct_law
