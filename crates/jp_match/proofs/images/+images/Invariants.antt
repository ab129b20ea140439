use Rattle.std.proofs.Common.{◌≡◌, ◌-◌, length, map, drop}
use Rattle.jp_iregexp.specs.Tree.{tree, branches, pieces}
use Rattle.jp_iregexp.specs.Language.{Language, Power}
use Rattle.jp_match.proofs.Sets.Reaching.{Completes, Covers}
use Rattle.jp_match.proofs.Sets.Growing.{Grows, absent}
use Rattle.jp_match.proofs.images.+images.Given as goal

abbrev pub invariant-at_most_image-loop-left : goal.invariant-at_most_image-loop-left
invariant-at_most_image-loop-left l = Grows (Language (tree l.inner)) l.fn.most l.left l.fn.search
    l.search l.reached.items

abbrev pub decreases-at_most_image-loop-left : goal.decreases-at_most_image-loop-left
decreases-at_most_image-loop-left l = absent l.reached.items (length l.reached.items)

abbrev pub invariant-either_image-loop-i : goal.invariant-either_image-loop-i
invariant-either_image-loop-i l = record {
  from : l.from.items ≡ l.fn.search.offsets.items;
  covers : Covers (Language (branches (map tree l.parts))) (Language (branches (map tree (drop l.i
      l.parts)))) l.fn.search l.search l.reached.items;
}

abbrev pub invariant-exactly_image-loop : goal.invariant-exactly_image-loop
invariant-exactly_image-loop l = record {
  before : l.before.items ≡ l.search.offsets.items;
  completes : Completes (Power (Language (tree l.inner)) l.count) (Power (Language (tree l.inner))
      (l.count - l.counter)) l.fn.search l.search;
}

abbrev pub invariant-sequence_image-loop-i : goal.invariant-sequence_image-loop-i
invariant-sequence_image-loop-i l = Completes (Language (pieces (map tree l.parts))) (Language
    (pieces (map tree (drop l.i l.parts)))) l.fn.search l.search
