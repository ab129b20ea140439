use Rattle.jp_evaluate.proofs.Parts.Counted.{calls_law}
use Rattle.jp_evaluate.proofs.laws.standard_calls.Goals as goal

pub returns : goal.returns
returns c = calls_law
