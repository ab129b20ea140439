use Rattle.std.proofs.Common.{refl}
use Rattle.jp_iregexp.proofs.Trees.{tree_class, tree_either, tree_sequence, tree_repeat}
use Rattle.jp_match.proofs.Texts.Cutting.{same_self, same_then, same_none, same_branches, same_pieces}
use Rattle.jp_match.proofs.Texts.Cutting.{same_repeat, same_more}
use Rattle.jp_match.proofs.cutting.+cut.Goals as goal

pub cut-returns-in_ok-branches-in-Either : goal.cut-returns-in_ok-branches-in-Either
cut-returns-in_ok-branches-in-Either t c = rw (
  tree_either c.in_ok-branches-in-Either.branches,
  c.in-Either.is,
  tree_either c.in-Either.branches,
  ← c.deref.ensures.value,
) (same_branches _ _ _ c.in_ok-branches-in-Either.ensures)

pub cut-returns-in_ok-pieces-in-Sequence : goal.cut-returns-in_ok-pieces-in-Sequence
cut-returns-in_ok-pieces-in-Sequence t c = rw (
  tree_sequence c.in_ok-pieces-in-Sequence.pieces,
  c.in-Sequence.is,
  tree_sequence c.in-Sequence.pieces,
  ← c.deref-in-Sequence.ensures.value,
) (same_pieces _ _ _ c.in_ok-pieces-in-Sequence.ensures)

pub cut-returns-in-Repeat : goal.cut-returns-in-Repeat
cut-returns-in-Repeat t c = rw (
  c.in-Repeat.is,
  tree_repeat,
  ← c.deref-in-Repeat.ensures,
) c.cut_repeat.ensures

pub cut-returns-in_ok-class-in-Class : goal.cut-returns-in_ok-class-in-Class
cut-returns-in_ok-class-in-Class t c = rw (
  tree_class c.in_ok-class-in-Class.class,
  c.in-Class.is,
  tree_class c.in-Class.class,
  c.in_ok-class-in-Class.ensures.negated,
  c.in_ok-class-in-Class.ensures.elements,
) (same_self _ _)

pub cut_each-loop-part-preserved : goal.cut_each-loop-part-preserved
cut_each-loop-part-preserved t c = rw c.in_ok-push.ensures.items (same_more _ _ _ _ _ _
    c.loop-part-test.true c.part-item.is c.loop-part.invariant c.in_ok-part.ensures)

pub cut_repeat-returns-in_default : goal.cut_repeat-returns-in_default
cut_repeat-returns-in_default t c = rw (tree_either c.new.result, c.new.ensures.items) (same_none _ _
    (c.in_default.ensures.none refl))

pub cut_repeat-returns : goal.cut_repeat-returns
cut_repeat-returns t c = rw (tree_repeat c.in_ok-inner-2.inner, c.in_ok-inner-2.ensures.ok)
    (same_then _ _ _ _ (same_repeat _ _ _ _ _ c.in_ok-inner.ensures) c.in-Some.ensures.same)
