use Rattle.std.proofs.Common.{refl}
use Rattle.jp_iregexp.proofs.Trees.{tree_class, tree_either, tree_sequence, tree_repeat}
use Rattle.jp_match.proofs.empty_word.+empty_word.Goals as goal

pub has_empty_word-returns-in-Either : goal.has_empty_word-returns-in-Either
has_empty_word-returns-in-Either t c =
    rw (c.in-Either.is, tree_either, ← c.deref.ensures.value) c.any_has_empty_word.ensures

pub has_empty_word-returns-in-Sequence : goal.has_empty_word-returns-in-Sequence
has_empty_word-returns-in-Sequence t c =
    rw (
      c.in-Sequence.is,
      tree_sequence,
      ← c.deref-in-Sequence.ensures.value,
    ) c.each_has_empty_word.ensures

pub has_empty_word-returns-in-Repeat : goal.has_empty_word-returns-in-Repeat
has_empty_word-returns-in-Repeat t c =
    rw (c.in-Repeat.is, tree_repeat, ← c.deref-in-Repeat.ensures) c.repeats_empty_word.ensures

pub has_empty_word-returns-in-Class : goal.has_empty_word-returns-in-Class
has_empty_word-returns-in-Class t c = rw (c.in-Class.is, tree_class) refl
