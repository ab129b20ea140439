use Rattle.jp_match.proofs.Texts.OnlyWords.{answers_whole}
use Rattle.jp_match.proofs.marks.MarksMatching.whole_counted.Goals as goal

pub returns-in-Some-clause-exact : goal.returns-in-Some-clause-exact
returns-in-Some-clause-exact c = answers_whole _ _ _ _ c.in-Some.ensures c.contain.ensures
