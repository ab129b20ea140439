use Rattle.std.proofs.Common.{◌<◌, length, sym, ◌∙◌, arith}
use Rattle.jp_iregexp.proofs.Trees.{tree_class, tree_either, tree_sequence, tree_repeat}
use Rattle.jp_match.proofs.Beginnings.{never_class, never_either, never_sequence}
use Rattle.jp_match.proofs.Beginnings.{never_repeat}
use Rattle.jp_match.proofs.Patterns.Items.{drop_item}
use Rattle.jp_match.proofs.beginning.+begins.Goals as goal

pub may_begin-returns-in-Either : goal.may_begin-returns-in-Either
may_begin-returns-in-Either t c = rw (
  c.in-Either.is,
  tree_either,
  ← c.deref.ensures.value,
) c.any_may_begin.ensures

pub may_begin-returns-in-Sequence : goal.may_begin-returns-in-Sequence
may_begin-returns-in-Sequence t c = rw (
  c.in-Sequence.is,
  tree_sequence,
  ← c.deref-in-Sequence.ensures.value,
) c.first_may_begin.ensures

pub may_begin-returns-in-Repeat : goal.may_begin-returns-in-Repeat
may_begin-returns-in-Repeat t c = rw (
  c.in-Repeat.is,
  tree_repeat,
  ← c.deref-in-Repeat.ensures,
) c.repeat_may_begin.ensures

pub any_may_begin-loop-branch-preserved : goal.any_may_begin-loop-branch-preserved
any_may_begin-loop-branch-preserved t c =
    let item = drop_item c.args.parts.now c.loop-branch.branch-index c.branch-item.result
    c.loop-branch-test.true c.branch-item.is in
    let completes = rw item at c.loop-branch.invariant.completes in
    let counted = rw item at c.loop-branch.invariant.counted in
    record {
      completes = λ never. completes (never_either _ _ _ (c.may_begin.ensures.never
          c.if-may_begin.false) never);
      counted = omega (arith, counted, c.may_begin.ensures.tests.counted);
      kept = omega (arith, c.loop-branch.invariant.kept, c.may_begin.ensures.tests.kept);
    }

pub may_begin-returns-in-Class-clause-never : goal.may_begin-returns-in-Class-clause-never
may_begin-returns-in-Class-clause-never t c =
    rw (c.in-Class.is, tree_class) (λ e. never_class _ _ _ (sym c.holds.ensures.answer ∙ e))

pub may_begin-returns-in-Class-clause-tests : goal.may_begin-returns-in-Class-clause-tests
may_begin-returns-in-Class-clause-tests t c = rw (c.in-Class.is, tree_class) (record {
  counted = omega (arith, c.holds.ensures.tests.counted);
  kept = c.holds.ensures.tests.kept;
})

pub first_may_begin-returns-clause-never : goal.first_may_begin-returns-clause-never
first_may_begin-returns-clause-never t c =
    let some : 0 < length c.args.parts.now = omega arith in
    let item = drop_item c.args.parts.now 0 c.first-item.result some c.first-item.is in
    rw item (λ e. never_sequence _ _ _ (c.may_begin.ensures.never e))

pub repeat_may_begin-returns-clause-never : goal.repeat_may_begin-returns-clause-never
repeat_may_begin-returns-clause-never t c = λ e. never_repeat _ _ _ _ (omega arith)
    (c.may_begin.ensures.never e)
