use Rattle.jp_query.proofs.Unique.{one-reading}
use Rattle.jp_query.proofs.laws.one_reading.Goals as goal

pub returns : goal.returns
returns c = one-reading
