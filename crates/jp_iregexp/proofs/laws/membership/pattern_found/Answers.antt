use Rattle.jp_iregexp.proofs.PatternOf.{spelt_is_found, others_have_none}
use Rattle.jp_iregexp.proofs.laws.membership.pattern_found.Goals as goal

pub returns : goal.returns
returns c = record { spelt = spelt_is_found; none = others_have_none }
