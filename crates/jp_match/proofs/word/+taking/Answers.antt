use Rattle.std.proofs.Common.{◌≡◌, ◌+◌, ◌-◌, ◌*◌, suc, map, drop, subst, add-one, rules, arith}
use Rattle.std.proofs.Math.Nat.{suc-mul}
use Rattle.std.specs.Str.{chars}
use Rattle.jp_iregexp.specs.Tree.{tree, branches, pieces}
use Rattle.jp_iregexp.specs.Language.{Language, Power}
use Rattle.jp_iregexp.specs.Positions.{positions_of}
use Rattle.jp_iregexp.proofs.Trees.{tree_class}
use Rattle.jp_match.specs.Private.OneWidth.{HasOneWidth}
use Rattle.jp_match.proofs.Patterns.Variants.{either_is, sequence_is, repeat_is}
use Rattle.jp_match.proofs.Patterns.Items.{drop_item}
use Rattle.jp_match.proofs.Texts.OneWidth.{width-branches, width-pieces, width-inner, width-count}
use Rattle.jp_match.proofs.Texts.OneWidth.{leaves-branch, leaves-others, leaves-all, leaves-then}
use Rattle.jp_match.proofs.Texts.OneWidth.{leaves-none, leaves-repeat}
use Rattle.jp_match.proofs.word.+taking.Goals as goal

pub after_word-returns-in-Either : goal.after_word-returns-in-Either
after_word-returns-in-Either t c =
    rw (either_is _ _ _ c.in-Either.is c.deref.ensures.value).same c.after_branch.ensures

pub after_word-returns-in-Sequence : goal.after_word-returns-in-Sequence
after_word-returns-in-Sequence t c =
    rw (sequence_is _ _ _ c.in-Sequence.is c.deref-in-Sequence.ensures.value).same
    c.after_sequence.ensures

pub after_word-returns-in-Class : goal.after_word-returns-in-Class
after_word-returns-in-Class t c = rw (c.in-Class.is, tree_class) c.after_char.ensures

pub after_word-after_branch-requires : goal.after_word-after_branch-requires
after_word-after_branch-requires t c =
    let is = either_is _ _ _ c.in-Either.is c.deref.ensures.value in (
      omega (arith, c.requires.1.0, is.smaller),
      subst HasOneWidth is.same c.requires.1.1,
    )

pub after_word-after_sequence-requires : goal.after_word-after_sequence-requires
after_word-after_sequence-requires t c =
    let is = sequence_is _ _ _ c.in-Sequence.is c.deref-in-Sequence.ensures.value in (
      omega (arith, c.requires.1.0, is.smaller),
      subst HasOneWidth is.same c.requires.1.1,
    )

pub after_word-after_repeat-requires : goal.after_word-after_repeat-requires
after_word-after_repeat-requires t c =
    let is = repeat_is _ _ _ _ _ c.in-Repeat.is c.deref-in-Repeat.ensures in (
      omega (arith, c.requires.1.0, is.smaller),
      width-inner (tree c.deref-in-Repeat.result.now) c.in-Repeat.least c.in-Repeat.most
          (subst HasOneWidth is.same c.requires.1.1),
    )

pub after_branch-returns-in-Some-clause-leaves : goal.after_branch-returns-in-Some-clause-leaves
after_branch-returns-in-Some-clause-leaves t c =
    let item = drop_item c.args.parts.now c.loop-branch.branch-index c.branch-item.result
    c.loop-branch-test.true c.branch-item.is in
    let others = map tree (drop (c.loop-branch.branch-index + 1) c.args.parts.now) in
    let wide = rw item at c.loop-branch.invariant.wide in
    c.loop-branch.invariant.completes _ (rw item (leaves-branch (tree c.branch-item.result)
    (branches others) wide.width _ _ wide.each c.in-Some.ensures.leaves))

pub after_branch-loop-branch-preserved : goal.after_branch-loop-branch-preserved
after_branch-loop-branch-preserved t c =
    let item = drop_item c.args.parts.now c.loop-branch.branch-index c.branch-item.result
    c.loop-branch-test.true c.branch-item.is in
    let others = map tree (drop (c.loop-branch.branch-index + 1) c.args.parts.now) in
    let counted = rw item at c.loop-branch.invariant.counted in
    record {
      wide = width-branches (tree c.branch-item.result) others (rw item at
          c.loop-branch.invariant.wide);
      completes = λ left leaves. c.loop-branch.invariant.completes left (rw item (leaves-others (tree
          c.branch-item.result) (branches others) _ left c.in_default.ensures.leaves leaves));
      counted = omega (arith, counted, c.after_word.ensures.tests.counted);
      kept = omega (arith, c.loop-branch.invariant.kept, c.after_word.ensures.tests.kept);
    }

pub after_piece-returns-in-Class-clause-leaves : goal.after_piece-returns-in-Class-clause-leaves
after_piece-returns-in-Class-clause-leaves t c =
    rw (c.in-Class.is, tree_class) c.after_char.ensures.leaves

pub after_piece-returns-in-Class-clause-tests : goal.after_piece-returns-in-Class-clause-tests
after_piece-returns-in-Class-clause-tests t c =
    rw (c.in-Class.is, tree_class) c.after_char.ensures.tests

pub after_pieces-returns-in_err-rest-clause-leaves :
    goal.after_pieces-returns-in_err-rest-clause-leaves
after_pieces-returns-in_err-rest-clause-leaves t c =
    let item = drop_item c.args.parts.now c.loop-piece.piece-index c.piece-item.result
    c.loop-piece-test.true c.piece-item.is in
    let others = map tree (drop (c.loop-piece.piece-index + 1) c.args.parts.now) in
    rw c.from_residual.ensures (c.loop-piece.invariant.completes _ (rw item (leaves-none (Language
    (tree c.piece-item.result)) (Language (pieces others)) _ c.in_err-rest.ensures.leaves)))

pub after_pieces-loop-piece-preserved : goal.after_pieces-loop-piece-preserved
after_pieces-loop-piece-preserved t c =
    let item = drop_item c.args.parts.now c.loop-piece.piece-index c.piece-item.result
    c.loop-piece-test.true c.piece-item.is in
    let others = map tree (drop (c.loop-piece.piece-index + 1) c.args.parts.now) in
    let counted = rw item at c.loop-piece.invariant.counted in
    record {
      text = search rules;
      wide = width-pieces (tree c.piece-item.result) others (rw item at
          c.loop-piece.invariant.wide);
      completes = λ left leaves. c.loop-piece.invariant.completes left (rw item (leaves-then
          (Language (tree c.piece-item.result)) (Language (pieces others)) _ _ left
          c.in_ok-rest.ensures.leaves leaves));
      counted = omega (arith, counted, c.after_piece.ensures.tests.counted);
      kept = omega (arith, c.loop-piece.invariant.kept, c.after_piece.ensures.tests.kept);
    }

pub after_repeat-returns-in_err-rest-clause-leaves :
    goal.after_repeat-returns-in_err-rest-clause-leaves
after_repeat-returns-in_err-rest-clause-leaves t c =
    let inner = Language (tree c.args.inner.now) in
    let more : c.args.count - c.loop.counter ≡ suc (c.args.count - (c.loop.counter + 1)) = omega
    arith in
    rw c.from_residual.ensures (leaves-repeat (tree c.args.inner.now) c.args.count _ _
    (c.loop.invariant.completes _ (rw more (leaves-none inner (Power inner (c.args.count -
    (c.loop.counter + 1))) _ c.in_err-rest.ensures.leaves))))

pub after_repeat-loop-preserved : goal.after_repeat-loop-preserved
after_repeat-loop-preserved t c =
    let inner = Language (tree c.args.inner.now) in
    let more : c.args.count - c.loop.counter ≡ suc (c.args.count - (c.loop.counter + 1)) = omega
    arith in
    let positions = positions_of (tree c.args.inner.now) in
    let times : (c.loop.counter + 1) * positions ≡ c.loop.counter * positions + positions = rw
    add-one (suc-mul c.loop.counter positions) in
    record {
      text = search rules;
      completes = λ left leaves. c.loop.invariant.completes left (rw more (leaves-then inner (Power
          inner (c.args.count - (c.loop.counter + 1))) _ _ left c.in_ok-rest.ensures.leaves
          leaves));
      counted = omega (arith, times, c.loop.invariant.counted, c.after_piece.ensures.tests.counted);
      kept = omega (arith, c.loop.invariant.kept, c.after_piece.ensures.tests.kept);
    }

pub after_repeat-returns-clause-leaves : goal.after_repeat-returns-clause-leaves
after_repeat-returns-clause-leaves t c =
    let none : c.args.count - c.loop.counter ≡ 0 = omega arith in
    leaves-repeat (tree c.args.inner.now) c.args.count _ _ (c.loop.invariant.completes _ (rw none
    (leaves-all (chars c.loop.rest.now))))

pub after_word-returns-in-Repeat-clause-leaves : goal.after_word-returns-in-Repeat-clause-leaves
after_word-returns-in-Repeat-clause-leaves t c =
    let is = repeat_is _ _ _ _ _ c.in-Repeat.is c.deref-in-Repeat.ensures in
    let one = width-count (tree c.deref-in-Repeat.result.now) c.in-Repeat.least c.in-Repeat.most
    (subst HasOneWidth is.same c.requires.1.1) in
    rw (is.same, one) c.after_repeat.ensures.leaves

pub after_word-returns-in-Repeat-clause-tests : goal.after_word-returns-in-Repeat-clause-tests
after_word-returns-in-Repeat-clause-tests t c =
    let is = repeat_is _ _ _ _ _ c.in-Repeat.is c.deref-in-Repeat.ensures in
    let one = width-count (tree c.deref-in-Repeat.result.now) c.in-Repeat.least c.in-Repeat.most
    (subst HasOneWidth is.same c.requires.1.1) in
    rw (is.same, one) c.after_repeat.ensures.tests
