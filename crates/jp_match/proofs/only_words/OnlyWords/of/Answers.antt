use Rattle.jp_iregexp.proofs.Trees.{tree_either}
use Rattle.jp_match.proofs.Texts.OnlyWords.{only_branches}
use Rattle.jp_match.proofs.only_words.OnlyWords.of.Goals as goal

pub returns : goal.returns
returns c = rw (c.in-Either.is, tree_either, ← c.deref.ensures.value) (only_branches _ _
    c.in_ok-words.ensures)
