use Rattle.jp_match.proofs.Texts.OneWidth.{leaves-alike}
use Rattle.jp_match.proofs.word.after_first_word.Goals as goal

pub returns-clause-leaves : goal.returns-clause-leaves
returns-clause-leaves c = leaves-alike _ _ _ _ c.only_branch.ensures c.after_word.ensures.leaves
