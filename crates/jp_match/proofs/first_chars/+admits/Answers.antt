use Rattle.std.proofs.Common.{◌<◌, length, arith}
use Rattle.jp_iregexp.proofs.Trees.{tree_class, tree_either, tree_sequence, tree_repeat}
use Rattle.jp_match.proofs.Beginnings.{never_sequence, never_repeat}
use Rattle.jp_match.proofs.Patterns.Items.{drop_item}
use Rattle.jp_match.proofs.first_chars.+admits.Goals as goal

pub admit-returns-in-Either : goal.admit-returns-in-Either
admit-returns-in-Either t c = rw (
  c.in-Either.is,
  tree_either,
  ← c.deref.ensures.value,
) c.admit_each.ensures

pub admit-returns-in-Sequence : goal.admit-returns-in-Sequence
admit-returns-in-Sequence t c = rw (
  c.in-Sequence.is,
  tree_sequence,
  ← c.deref-in-Sequence.ensures.value,
) c.admit_first.ensures

pub admit-returns-in-Repeat : goal.admit-returns-in-Repeat
admit-returns-in-Repeat t c = rw (
  c.in-Repeat.is,
  tree_repeat,
  ← c.deref-in-Repeat.ensures,
) c.admit_repeat.ensures

pub admit-returns-in-Class : goal.admit-returns-in-Class
admit-returns-in-Class t c = rw (c.in-Class.is, tree_class) c.admit_class.ensures

pub admit_first-returns : goal.admit_first-returns
admit_first-returns t c =
    let some : 0 < length c.args.parts.now = omega arith in
    let item = drop_item c.args.parts.now 0 c.first-item.result some c.first-item.is in
    rw item (record {
      fewer = c.admit.ensures.fewer;
      never = λ char out. never_sequence _ _ _ (c.admit.ensures.never char out);
    })

pub admit_repeat-returns : goal.admit_repeat-returns
admit_repeat-returns t c = record {
  fewer = c.admit.ensures.fewer;
  never = λ char out. never_repeat _ _ _ _ (omega arith) (c.admit.ensures.never char out);
}
