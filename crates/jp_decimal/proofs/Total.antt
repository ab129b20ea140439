-- The order of numbers is total.
use Rattle.std.proofs.Common.{◌+◌, arith, sym, ◌∙◌}
use Rattle.std.specs.Prelude.{ℤ, negsuc, ◌≤ℤ◌}
use Rattle.std.specs.Cmp.{IsTotalOrder}
use Rattle.std.proofs.lemmas.Cmp.{int_cmp_total}
use Rattle.std.proofs.lemmas.Int.{ints}
use borrow.Author.Differences.{down}
use Rattle.jp_decimal.proofs.Order.{cmp-at}
use Rattle.jp_decimal.specs.Scaled.{raised, scaled_cmp}

-- a number that is at most each of three
pub below : (e f g : ℤ) → (m : ℤ) × (m ≤ℤ e) × (m ≤ℤ f) × (m ≤ℤ g)
below e f g =
    (negsuc (down e + down f + down g), omega (arith, ints), omega (arith, ints), omega (arith, ints))

pub scaled_cmp-total : IsTotalOrder scaled_cmp
scaled_cmp-total = record {
  antisymm = λ x y. int_cmp_total.antisymm (raised x y.exponent) (raised y x.exponent);
  trans = λ x y z p q.
      let b : (m : ℤ) × (m ≤ℤ x.exponent) × (m ≤ℤ y.exponent) × (m ≤ℤ z.exponent) = below x.exponent y.exponent z.exponent in
      sym (cmp-at x z b.0 b.1 b.3)
      ∙ int_cmp_total.trans (raised x b.0) (raised y b.0) (raised z b.0) (cmp-at x y b.0 b.1 b.2 ∙ p) (cmp-at y z b.0 b.2 b.3 ∙ q);
  congr = λ x y z p.
      let b : (m : ℤ) × (m ≤ℤ x.exponent) × (m ≤ℤ y.exponent) × (m ≤ℤ z.exponent) = below x.exponent y.exponent z.exponent in
      sym (cmp-at x z b.0 b.1 b.3)
      ∙ (int_cmp_total.congr (raised x b.0) (raised y b.0) (raised z b.0) (cmp-at x y b.0 b.1 b.2 ∙ p) ∙ cmp-at y z b.0 b.2 b.3);
}
