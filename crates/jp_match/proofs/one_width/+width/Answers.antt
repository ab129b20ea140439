use Rattle.std.proofs.Common.{◌≡◌, ◌+◌, length, drop, map, refl, ap, subst, ◌∙◌, arith}
use Rattle.jp_iregexp.specs.Tree.{tree, pieces}
use Rattle.jp_iregexp.proofs.Trees.{tree_class, tree_either, tree_sequence, tree_repeat}
use Rattle.jp_match.specs.Private.OneWidth.{IsWidthOf}
use Rattle.jp_match.proofs.Patterns.Items.{drop_item, drop_all}
use Rattle.jp_match.proofs.Texts.OneWidth.{told-more}
use Rattle.jp_match.proofs.one_width.+width.Goals as goal

pub width_of-returns-in-Either : goal.width_of-returns-in-Either
width_of-returns-in-Either t c = rw (
  c.in-Either.is,
  tree_either,
  ← c.deref.ensures.value,
) c.width_of_each.ensures

pub width_of-returns-in-Sequence : goal.width_of-returns-in-Sequence
width_of-returns-in-Sequence t c = rw (
  c.in-Sequence.is,
  tree_sequence,
  ← c.deref-in-Sequence.ensures.value,
) c.width_of_all.ensures

pub width_of-returns-in-Repeat : goal.width_of-returns-in-Repeat
width_of-returns-in-Repeat t c = rw (
  c.in-Repeat.is,
  tree_repeat,
  ← c.deref-in-Repeat.ensures,
) c.width_of_repeat.ensures

pub width_of-returns-in-Class : goal.width_of-returns-in-Class
width_of-returns-in-Class t c = rw (c.in-Class.is, tree_class) (record { first = refl; each = refl })

pub width_of_all-loop-piece-preserved : goal.width_of_all-loop-piece-preserved
width_of_all-loop-piece-preserved t c =
    let item = drop_item c.args.parts.now c.loop-piece.piece-index c.piece-item.result
    c.loop-piece-test.true c.piece-item.is in
    let completes = rw item at c.loop-piece.invariant in
    let is : IsWidthOf (tree c.piece-item.result) c.in_ok-own.own = c.in_ok-own.ensures in
    λ others are.
    let sum : c.loop-piece.width + (c.in_ok-own.own + others) ≡ c.in_ok-width.width + others =
    (let e = c.in_ok-width.ensures.1 in omega arith) in
    subst (IsWidthOf (pieces (map tree c.args.parts.now))) sum (completes (c.in_ok-own.own +
    others) (told-more (tree c.piece-item.result) (map tree (drop (c.loop-piece.piece-index + 1)
    c.args.parts.now)) c.in_ok-own.own others is are))

pub width_of_all-returns : goal.width_of_all-returns
width_of_all-returns t c =
    let end : c.loop-piece.piece-index ≡ length c.args.parts.now = omega arith in
    let none = ap (λ n. drop n c.args.parts.now) end ∙ drop_all c.args.parts.now in
    let all : IsWidthOf (pieces (map tree c.args.parts.now)) (c.loop-piece.width + 0) = (rw none at
    c.loop-piece.invariant) 0 (record { first = refl; each = refl }) in
    subst (IsWidthOf (pieces (map tree c.args.parts.now))) (omega arith) all
