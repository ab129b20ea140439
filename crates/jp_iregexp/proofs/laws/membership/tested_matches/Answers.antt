use Rattle.jp_iregexp.proofs.Matches.{matches_are_tested, part_matches_are_tested}
use Rattle.jp_iregexp.proofs.laws.membership.tested_matches.Goals as goal

pub returns : goal.returns
returns c = record { whole = matches_are_tested; part = part_matches_are_tested }
