use Rattle.jp_match.proofs.Beginnings.{none_in}
use Rattle.jp_match.proofs.first_chars.admit_all.Goals as goal

pub returns : goal.returns
returns c = none_in 128
