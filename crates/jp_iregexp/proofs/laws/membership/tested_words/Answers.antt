use Rattle.jp_iregexp.proofs.Membership.{words_are_tested, parts_are_tested}
use Rattle.jp_iregexp.proofs.laws.membership.tested_words.Goals as goal

pub returns : goal.returns
returns c = record { words = words_are_tested; parts = parts_are_tested }
