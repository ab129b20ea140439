use Rattle.std.proofs.Common.{◌≡◌, Some, ap, ◌∙◌, arith}
use Rattle.std.proofs.lemmas.Option.{IfSome_then}
use Rattle.jp_iregexp.specs.Tree.{tree}
use Rattle.jp_iregexp.proofs.Trees.{tree_class}
use Rattle.jp_match.specs.Private.Plain.{unrolled}
use Rattle.jp_match.proofs.Patterns.Items.{only_item}
use Rattle.jp_match.proofs.Patterns.Variants.{either_is, sequence_is, repeat_is}
use Rattle.jp_match.proofs.Steps.OneClass.{one_class, one_branch, one_piece, one_optional}
use Rattle.jp_match.proofs.one_class.+one_class.Goals as goal

pub one_class-returns-in-Either : goal.one_class-returns-in-Either
one_class-returns-in-Either t c =
    rw (either_is _ _ _ c.in-Either.is c.deref.ensures.value).same c.only_class.ensures.branch

pub one_class-returns-in-Sequence : goal.one_class-returns-in-Sequence
one_class-returns-in-Sequence t c =
    rw (sequence_is _ _ _ c.in-Sequence.is c.deref-in-Sequence.ensures.value).same
    c.only_class-in-Sequence.ensures.piece

pub one_class-returns-in-Repeat : goal.one_class-returns-in-Repeat
one_class-returns-in-Repeat t c =
    rw (repeat_is _ _ _ _ _ c.in-Repeat.is c.deref-in-Repeat.ensures).same
    c.optional_class.ensures

pub optional_class-returns : goal.optional_class-returns
optional_class-returns t c =
    let none : c.args.least ≡ 0 = omega arith in
    let one : c.in_ok-most.most ≡ 1 = omega arith in
    let most : c.args.most ≡ Some 1 = c.in_ok-most.was ∙ ap Some one in
    rw (none, most) (one_optional (tree c.args.inner.now) _ _ _ c.in_ok-one.ensures)

pub one_class-returns-in-Class : goal.one_class-returns-in-Class
unfolding unrolled
one_class-returns-in-Class t c = rw (c.in-Class.is, tree_class) (one_class _ _)

pub only_class-returns-clause-branch : goal.only_class-returns-clause-branch
only_class-returns-clause-branch t c =
    let only = only_item c.args.parts.now c.only-item.result c.in-len1.len_at_least
    c.in-len1.len_below c.only-item.is in
    rw only (IfSome_then c.one_class.result c.one_class.ensures (λ one is. one_branch (tree
    c.only-item.result) _ _ _ is))

pub only_class-returns-clause-piece : goal.only_class-returns-clause-piece
only_class-returns-clause-piece t c =
    let only = only_item c.args.parts.now c.only-item.result c.in-len1.len_at_least
    c.in-len1.len_below c.only-item.is in
    rw only (IfSome_then c.one_class.result c.one_class.ensures (λ one is. one_piece (tree
    c.only-item.result) _ _ _ is))
