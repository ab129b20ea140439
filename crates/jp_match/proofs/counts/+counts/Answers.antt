use Rattle.std.proofs.Common.{◌≡◌, ◌+◌, ◌*◌, ◌^◌, min, max, refl, ap, ◌∙◌, arith, drop, map}
use Rattle.std.proofs.Common.{length}
use Rattle.jp_iregexp.specs.Tree.{tree}
use Rattle.jp_iregexp.proofs.Trees.{tree_class, tree_either, tree_sequence, tree_repeat}
use Rattle.jp_match.specs.Private.Plain.{unrolled}
use Rattle.jp_match.specs.Private.Sweeps.{own_rounds, rounds_of}
use Rattle.jp_match.proofs.Counting.{positions_of_parts, rounds_of_parts, rounds_more}
use Rattle.jp_match.proofs.Counting.{rounds_repeat_most, rounds_repeat_on, times_more}
use Rattle.jp_match.proofs.Patterns.Items.{drop_item, drop_all}
use Rattle.jp_match.proofs.counts.+counts.Goals as goal

pub counts_of-returns-in-Either-clause-positions : goal.counts_of-returns-in-Either-clause-positions
counts_of-returns-in-Either-clause-positions t c =
    rw (c.in-Either.is, tree_either, positions_of_parts, ← c.deref.ensures.value)
    c.counts_of_all.ensures.positions

pub counts_of-returns-in-Either-clause-rounds : goal.counts_of-returns-in-Either-clause-rounds
counts_of-returns-in-Either-clause-rounds t c =
    rw (c.in-Either.is, tree_either, rounds_of_parts, ← c.deref.ensures.value)
    c.counts_of_all.ensures.rounds

pub counts_of-returns-in-Sequence-clause-positions :
    goal.counts_of-returns-in-Sequence-clause-positions
counts_of-returns-in-Sequence-clause-positions t c =
    rw (c.in-Sequence.is, tree_sequence, ← c.deref-in-Sequence.ensures.value)
    c.counts_of_all-in-Sequence.ensures.positions

pub counts_of-returns-in-Sequence-clause-rounds : goal.counts_of-returns-in-Sequence-clause-rounds
counts_of-returns-in-Sequence-clause-rounds t c =
    rw (c.in-Sequence.is, tree_sequence, ← c.deref-in-Sequence.ensures.value)
    c.counts_of_all-in-Sequence.ensures.rounds

pub counts_of-returns-in-Repeat-clause-positions : goal.counts_of-returns-in-Repeat-clause-positions
counts_of-returns-in-Repeat-clause-positions t c =
    rw (c.in-Repeat.is, tree_repeat, ← c.deref-in-Repeat.ensures) c.counts_of_repeat.ensures.positions

pub counts_of-returns-in-Repeat-clause-rounds : goal.counts_of-returns-in-Repeat-clause-rounds
counts_of-returns-in-Repeat-clause-rounds t c =
    rw (c.in-Repeat.is, tree_repeat, ← c.deref-in-Repeat.ensures) c.counts_of_repeat.ensures.rounds

pub counts_of-returns-in-Class-clause-positions : goal.counts_of-returns-in-Class-clause-positions
counts_of-returns-in-Class-clause-positions t c = rw (c.in-Class.is, tree_class) refl

pub counts_of-returns-in-Class-clause-rounds : goal.counts_of-returns-in-Class-clause-rounds
unfolding unrolled
counts_of-returns-in-Class-clause-rounds t c = rw (c.in-Class.is, tree_class) refl

pub counts_of_all-loop-part-preserved : goal.counts_of_all-loop-part-preserved
counts_of_all-loop-part-preserved t c =
    let item = drop_item c.args.parts.now c.loop-part.part-index c.part-item.result
    c.loop-part-test.true c.part-item.is in
    let others = map tree (drop (c.loop-part.part-index + 1) c.args.parts.now) in
    let positions = rw item at c.loop-part.invariant.positions in
    let rounds = rw (item, rounds_more (tree c.part-item.result) others) at
    c.loop-part.invariant.rounds in
    let counts = c.counts_of-counts.ensures in
    record {
      positions_within = omega (arith, c.min-positions.ensures);
      positions = omega (arith, positions, counts.positions, c.min-positions.ensures);
      rounds_within = omega (arith, c.min-rounds.ensures);
      rounds = omega (arith, rounds, counts.rounds, c.min-rounds.ensures);
    }

pub counts_of_all-returns-clause-rounds : goal.counts_of_all-returns-clause-rounds
unfolding unrolled
counts_of_all-returns-clause-rounds t c =
    let end : c.loop-part.part-index ≡ length c.args.parts.now = omega arith in
    let none = ap (λ n. drop n c.args.parts.now) end ∙ drop_all c.args.parts.now in
    let rounds = rw none at c.loop-part.invariant.rounds in
    omega (arith, rounds, c.loop-part.invariant.rounds_within)

pub counts_of_repeat-returns-in-Some-clause-rounds :
    goal.counts_of_repeat-returns-in-Some-clause-rounds
counts_of_repeat-returns-in-Some-clause-rounds t c =
    let inner = rounds_of (unrolled (tree c.args.inner.now)) in
    let most = c.in-Some.most in
    let none : min (most * inner + 0) (2 ^ 31) ≡ min (most * inner) (2 ^ 31) = omega arith in
    rw (c.in-Some.is, rounds_repeat_most) (c.times.ensures.rounds ∙
    ap (λ n. min (most * n + 0) (2 ^ 31)) c.counts_of-counts.ensures.rounds ∙
    times_more (2 ^ 31) most inner 0 ∙ none)

pub counts_of_repeat-returns-in-None-clause-rounds :
    goal.counts_of_repeat-returns-in-None-clause-rounds
counts_of_repeat-returns-in-None-clause-rounds t c =
    let inner = rounds_of (unrolled (tree c.args.inner.now)) in
    let own = own_rounds (unrolled (tree c.args.inner.now)) in
    let copies = max c.args.least 1 in
    rw (c.in-None.is, rounds_repeat_on) (c.times-in-None.ensures.rounds ∙
    ap (λ n. min (c.max.result * n + c.own_rounds.result) (2 ^ 31))
    c.counts_of-counts.ensures.rounds ∙
    ap (λ n. min (n * min inner (2 ^ 31) + c.own_rounds.result) (2 ^ 31)) c.max.ensures ∙
    ap (λ n. min (copies * min inner (2 ^ 31) + n) (2 ^ 31)) c.own_rounds.ensures ∙
    times_more (2 ^ 31) copies inner own)
