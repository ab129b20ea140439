use Rattle.std.proofs.Common.{map, ap}
use Rattle.jp_iregexp.specs.Tree.{tree}
use Rattle.jp_match.proofs.Patterns.Items.{only_item}
use Rattle.jp_match.proofs.Patterns.Variants.{sequence_is}
use Rattle.jp_match.proofs.Steps.Whole.{start_only, all_only}
use Rattle.jp_match.proofs.whole.step_branches.Goals as goal

pub step_pieces-requires : goal.step_pieces-requires
step_pieces-requires c =
    let only = only_item c.args.parts.now c.only-item.result c.in-len1.len_at_least
    c.in-len1.len_below c.only-item.is in
    let is = sequence_is _ _ _ c.in-Sequence.is c.deref.ensures.value in
    start_only (ap (map tree) only) is.same c.requires

pub returns-in-Sequence : goal.returns-in-Sequence
returns-in-Sequence c =
    let only = only_item c.args.parts.now c.only-item.result c.in-len1.len_at_least
    c.in-len1.len_below c.only-item.is in
    let is = sequence_is _ _ _ c.in-Sequence.is c.deref.ensures.value in
    all_only (ap (map tree) only) is.same c.step_pieces.ensures
