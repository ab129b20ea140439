-- Counts of positions and of rounds, up to the greatest that is told apart.
use Rattle.std.proofs.Common.{◌≡◌, ◌≤◌, ℕ, zero, suc, ◌+◌, ◌*◌, min, max, List, [], ◌∷◌, Some}
use Rattle.std.proofs.Common.{None, inl, inr, refl, ap, arith}
use Rattle.std.proofs.lemmas.Bool.{cases_lt}
use Rattle.std.proofs.Math.Nat.{mul-le-mul_left, mul_comm}
use Rattle.jp_iregexp.specs.Tree.{Tree, branches, pieces, repeat}
use Rattle.jp_iregexp.specs.Positions.{positions_of}
use Rattle.jp_match.specs.Private.Plain.{unrolled, counted}
use Rattle.jp_match.specs.Private.Sweeps.{own_rounds, rounds_of}
use Rattle.jp_match.proofs.Steps.Sizes.{rounds_between, rounds_at_least}

pub positions_of_parts : (ts : List Tree) → positions_of (branches ts) ≡ positions_of (pieces ts)
positions_of_parts [] = refl
positions_of_parts (a ∷ others) = ap (λ n. positions_of a + n) (positions_of_parts others)

pub rounds_of_parts : (ts : List Tree)
    → rounds_of (unrolled (branches ts)) ≡ rounds_of (unrolled (pieces ts))
unfolding unrolled
rounds_of_parts [] = refl
rounds_of_parts (a ∷ others) = ap (λ n. rounds_of (unrolled a) + n) (rounds_of_parts others)

pub rounds_more : (a : Tree) (others : List Tree) → rounds_of (unrolled (pieces (a ∷ others)))
    ≡ rounds_of (unrolled a) + rounds_of (unrolled (pieces others))
unfolding unrolled
rounds_more a others = refl

-- a product capped is that of a factor capped
pub times_more : (cap k x own : ℕ) → min (k * min x cap + own) cap ≡ min (k * x + own) cap
times_more cap zero x own = omega arith
times_more cap (suc k) x own = elim (cases_lt x cap) [
  | inl below ↦ let e : min x cap ≡ x = omega arith in rw e refl
  | inr above ↦
      let e : min x cap ≡ cap = omega arith in
      rw e (omega (arith, mul-le-mul_left k above))
]

pub rounds_repeat_most : (a : Tree) (least most : ℕ)
    → rounds_of (unrolled (repeat a least (Some most))) ≡ most * rounds_of (unrolled a)
unfolding unrolled counted
rounds_repeat_most a least most = rounds_between (unrolled a) least most

pub rounds_repeat_on : (a : Tree) (least : ℕ) → rounds_of (unrolled (repeat a least None))
    ≡ max least 1 * rounds_of (unrolled a) + own_rounds (unrolled a)
unfolding unrolled counted
rounds_repeat_on a least = rounds_at_least (unrolled a) least

-- where the steps for a character are enough for its positions, those for a text are for all of them
pub steps-cover : (p n w most : ℕ) → p ≤ 64 * w → min (p * n) most ≤ 64 * min (n * w) most
steps-cover p n w most enough =
    let scaled : n * p ≤ n * (64 * w) = mul-le-mul_left n enough in
    let turned : p * n ≡ n * p = mul_comm p n in
    omega arith
