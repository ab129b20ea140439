use Rattle.jp_iregexp.specs.Tree.{tree}
use Rattle.jp_match.proofs.Patterns.Items.{only_item}
use Rattle.jp_match.proofs.Patterns.Variants.{either_is}
use Rattle.jp_match.proofs.Texts.OneWidth.{alike-branch}
use Rattle.jp_match.proofs.word.only_branch.Goals as goal

pub returns-in-len1 : goal.returns-in-len1
returns-in-len1 c =
    let items = only_item c.as_slice.result.now c.only-item.result c.in-len1.len_at_least
    c.in-len1.len_below c.only-item.is in
    let is = either_is _ _ _ c.in-Either.is c.as_slice.ensures.value in
    rw (is.same, items) (alike-branch (tree c.only-item.result))
