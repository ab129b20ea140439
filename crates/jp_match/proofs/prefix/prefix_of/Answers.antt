use Rattle.jp_iregexp.specs.Tree.{tree}
use Rattle.jp_match.proofs.Patterns.Items.{only_item}
use Rattle.jp_match.proofs.Patterns.Variants.{either_is}
use Rattle.jp_match.proofs.Texts.OnlyWords.{begin-branch}
use Rattle.jp_match.proofs.prefix.prefix_of.Goals as goal

pub returns : goal.returns
returns c =
    let items = only_item c.as_slice.result.now c.only-item.result c.in-len1.len_at_least
    c.in-len1.len_below c.only-item.is in
    let is = either_is _ _ _ c.in-Either.is c.as_slice.ensures.value in
    rw (is.same, items) (begin-branch (tree c.only-item.result) _ c.in_ok-prefix.ensures)
