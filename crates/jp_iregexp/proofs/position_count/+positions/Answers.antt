use Rattle.std.proofs.Common.{◌≡◌, ℕ, zero, suc, ◌+◌, ◌*◌, min, List}
use Rattle.std.proofs.Common.{[], ◌∷◌, refl, ap, ◌∙◌, arith, inl, inr, drop, sym}
use Rattle.std.proofs.lemmas.Bool.{cases_lt}
use Rattle.std.proofs.lemmas.List.{drop_more}
use Rattle.std.proofs.Math.Nat.{mul-le-mul_left}
use Rattle.jp_iregexp.specs.Tree.{Tree, tree, branches, pieces}
use Rattle.jp_iregexp.specs.Positions.{positions_of, copies}
use Rattle.jp_iregexp.proofs.Trees.{tree_class, tree_either, tree_sequence, tree_repeat}
use Rattle.jp_iregexp.proofs.position_count.+positions.Goals as goal
use Rattle.jp_iregexp.proofs.position_count.+positions.Goals.{positions_of_all-in-Class}
use Rattle.jp_iregexp.proofs.position_count.+positions.Goals.{positions_of_all-in_default}

branches_as_pieces : (ts : List Tree) → positions_of (branches ts) ≡ positions_of (pieces ts)
branches_as_pieces [] = refl
branches_as_pieces (a ∷ others) = ap (λ n. positions_of a + n) (branches_as_pieces others)

-- a product capped is that of a factor capped
times_capped : (most k x : ℕ) → min (k * min x most) most ≡ min (k * x) most
times_capped most zero x = omega arith
times_capped most (suc k) x = elim (cases_lt x most) [
  | inl below ↦ let e : min x most ≡ x = omega arith in rw e refl
  | inr above ↦
      let e : min x most ≡ most = omega arith in
      rw e (omega (arith, mul-le-mul_left k above))
]

pub positions-returns-in-Either : goal.positions-returns-in-Either
positions-returns-in-Either t c =
    rw (c.in-Either.is, tree_either, branches_as_pieces, ← c.deref.ensures.value)
    c.positions_of_all.ensures

pub positions-returns-in-Sequence : goal.positions-returns-in-Sequence
positions-returns-in-Sequence t c =
    rw (c.in-Sequence.is, tree_sequence, ← c.deref-in-Sequence.ensures.value)
    c.positions_of_all-in-Sequence.ensures

pub positions-returns-in-Repeat : goal.positions-returns-in-Repeat
positions-returns-in-Repeat t c =
    let same : c.deref-in-Repeat.result.now ≡ c.in-Repeat.inner.value = c.deref-in-Repeat.ensures in
    let few =
    times_capped 4097 (copies c.in-Repeat.least c.in-Repeat.most)
    (positions_of (tree c.deref-in-Repeat.result.now)) in
    rw (c.in-Repeat.is, tree_repeat, ← same) cc

pub positions-returns-in-Class : goal.positions-returns-in-Class
positions-returns-in-Class t c = rw (c.in-Class.is, tree_class) refl

pub positions_of_all-loop-part-preserved : goal.positions_of_all-loop-part-preserved
positions_of_all-loop-part-preserved t c =
    let count : c.match-part.count ≡ min (positions_of (tree c.part-item.result)) 4097 =
    elim c.match-part.branch [
      | positions_of_all-in-Class w ↦ rw (w.in-Class.is, tree_class, w.count-is) refl
      | positions_of_all-in_default w ↦ w.count-is ∙ w.positions-count.ensures
    ] in
    let item =
    drop_more c.args.parts.now c.loop-part.part-index c.part-item.result c.loop-part-test.true
    ∙ ap (λ y. y ∷ drop (c.loop-part.part-index + 1) c.args.parts.now) (sym c.part-item.is) in
    let counted = rw item at c.loop-part.invariant.counted in
    record {
      within = omega (arith, c.min-sum.ensures);
      counted = omega (arith, counted, count, c.min-sum.ensures);
    }
