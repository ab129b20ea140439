use Rattle.jp_match.proofs.Texts.OnlyWords.{answers_part}
use Rattle.jp_match.proofs.marks.MarksMatching.part_counted.Goals as goal

pub returns-in-Some-clause-exact : goal.returns-in-Some-clause-exact
returns-in-Some-clause-exact c = answers_part _ _ _ _ c.in-Some.ensures c.occur_in.ensures
