use Rattle.jp_query.proofs.OneRefusal.{one-refusal}
use Rattle.jp_query.proofs.laws.one_refusal.Goals as goal

pub returns : goal.returns
returns c = one-refusal
