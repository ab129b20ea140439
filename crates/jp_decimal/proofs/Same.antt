-- When two numbers are the same, and what has to be the same of them then.
use Rattle.std.proofs.Common.{◌≡◌, ◌≢◌, ◌*◌, ◌%◌, ◌^◌, ◌<◌, ℕ, zero, suc, arith, subst, sym, ap}
use Rattle.std.proofs.Common.{◌∙◌, refl, ◌⊎◌, inl, inr}
use Rattle.std.specs.Prelude.{ℤ, pos, negsuc, ◌*ℤ◌, ◌-ℤ◌, unsigned_abs, Bool, true, false}
use Rattle.std.specs.Ordering.{int_cmp}
use Rattle.std.specs.declared.cmp.Ordering.TheVariants.{Equal}
use Rattle.std.proofs.lemmas.Cmp.{int_cmp_total, int_ranked, tied_itself}
use Rattle.std.proofs.lemmas.Int.{ints, unsigned_abs-mul}
use Rattle.std.proofs.lemmas.Bool.{cases_lt}
use Rattle.fast_float.specs.Text.{with_sign}
use Rattle.jp_decimal.proofs.Order.{below-times, from_zero-is}
use Rattle.jp_decimal.proofs.Runs.{tens-more}
use Rattle.jp_decimal.proofs.Total.{scaled_cmp-total}
use Rattle.jp_decimal.specs.Scaled.{Scaled, SameNumber, from_zero, raised, scaled_cmp}

-- ---- the same number, and the order
pub same-from-cmp : (x y : Scaled) → scaled_cmp x y ≡ Equal → SameNumber x y
same-from-cmp x y e = int_ranked (raised x y.exponent) (raised y x.exponent) Equal (sym e)

pub cmp-from-same : (x y : Scaled) → SameNumber x y → scaled_cmp x y ≡ Equal
cmp-from-same x y e =
    subst (λ z. int_cmp (raised x y.exponent) z ≡ Equal) e (tied_itself int_cmp_total (raised x y.exponent))

pub same-sym : (x y : Scaled) → SameNumber x y → SameNumber y x
same-sym x y e = sym e

pub same-trans : (x y z : Scaled) → SameNumber x y → SameNumber y z → SameNumber x z
same-trans x y z p q =
    same-from-cmp x z (scaled_cmp-total.congr x y z (cmp-from-same x y p) ∙ cmp-from-same y z q)

-- ---- sizes
pub same-sizes : (x y : Scaled) → SameNumber x y
    → unsigned_abs x.coefficient * 10 ^ from_zero (x.exponent -ℤ y.exponent)
    ≡ unsigned_abs y.coefficient * 10 ^ from_zero (y.exponent -ℤ x.exponent)
same-sizes x y e =
    sym (unsigned_abs-mul x.coefficient (pos (10 ^ from_zero (x.exponent -ℤ y.exponent))))
    ∙ (ap unsigned_abs e ∙ unsigned_abs-mul y.coefficient (pos (10 ^ from_zero (y.exponent -ℤ x.exponent))))

pub one-gap : (e f : ℤ) → (from_zero (e -ℤ f) ≡ 0) ⊎ (from_zero (f -ℤ e) ≡ 0)
one-gap e f =
    elim (cases_lt 0 (from_zero (e -ℤ f))) [
      | inl h ↦ inr (omega (arith, ints, h, from_zero-is (e -ℤ f), from_zero-is (f -ℤ e)))
      | inr h ↦ inl (omega (arith, h))
    ]

-- ---- numbers that do not end in 0
pub ends-in-zero : (a k : ℕ) → 0 < k → (a * 10 ^ k) % 10 ≡ 0
ends-in-zero a zero h = let no : ⊥ = omega arith in absurd no
ends-in-zero a (suc k) h =
    let m : 10 ^ suc k ≡ 10 ^ k * 10 = ap (λ n. 10 ^ n) (omega arith) ∙ tens-more k in
    let e : a * 10 ^ suc k ≡ a * (10 ^ k * 10) = ap (λ n. a * n) m in
    let p : a * (10 ^ k * 10) ≡ a * 10 ^ k * 10 = omega arith in
    omega (arith, e, p)

pub no-gap : (a b i j : ℕ) → a * 10 ^ i ≡ b * 10 ^ j → (i ≡ 0) ⊎ (j ≡ 0) → a % 10 ≢ 0 → b % 10 ≢ 0 → (i ≡ 0) × (j ≡ 0)
no-gap a b zero zero e one x y = (refl, refl)
no-gap a b zero (suc j) e one x y = absurd (x (let w : (b * 10 ^ suc j) % 10 ≡ 0 = ends-in-zero b (suc j) (omega arith) in omega (arith, e, w)))
no-gap a b (suc i) zero e one x y = absurd (y (let w : (a * 10 ^ suc i) % 10 ≡ 0 = ends-in-zero a (suc i) (omega arith) in omega (arith, e, w)))
no-gap a b (suc i) (suc j) e one x y = elim one [ inl h ↦ let no : ⊥ = omega (arith, h) in absurd no | inr h ↦ let no : ⊥ = omega (arith, h) in absurd no ]

pub times-one : (z : ℤ) → z *ℤ pos 1 ≡ z
times-one (pos a) = ap pos (omega arith)
times-one (negsuc a) = below-times a 1 (omega arith) ∙ ap negsuc (omega arith)

-- equal numbers that do not end in 0 have one coefficient and one exponent
pub one-form : (x y : Scaled) → unsigned_abs x.coefficient % 10 ≢ 0 → unsigned_abs y.coefficient % 10 ≢ 0 → SameNumber x y
    → (x.coefficient ≡ y.coefficient) × (x.exponent ≡ y.exponent)
one-form x y p q e =
    let i : ℕ = from_zero (x.exponent -ℤ y.exponent) in
    let j : ℕ = from_zero (y.exponent -ℤ x.exponent) in
    let none : (i ≡ 0) × (j ≡ 0) = no-gap (unsigned_abs x.coefficient) (unsigned_abs y.coefficient) i j (same-sizes x y e) (one-gap x.exponent y.exponent) p q in
    let left : x.coefficient *ℤ pos (10 ^ i) ≡ x.coefficient = ap (λ n. x.coefficient *ℤ pos (10 ^ n)) none.0 ∙ times-one x.coefficient in
    let right : y.coefficient *ℤ pos (10 ^ j) ≡ y.coefficient = ap (λ n. y.coefficient *ℤ pos (10 ^ n)) none.1 ∙ times-one y.coefficient in
    (sym left ∙ (e ∙ right), omega (arith, ints, none, from_zero-is (x.exponent -ℤ y.exponent), from_zero-is (y.exponent -ℤ x.exponent)))

-- ---- signs
pub signed-times : (negative : Bool) (a p : ℕ) → 0 < p → with_sign negative a *ℤ pos p ≡ with_sign negative (a * p)
signed-times false a p some = refl
signed-times true zero p some = let e : 0 * p ≡ 0 = omega arith in rw e refl
signed-times true (suc a) p some = refl

pub signed-size : (negative : Bool) (a : ℕ) → unsigned_abs (with_sign negative a) ≡ a
signed-size false a = refl
signed-size true zero = refl
signed-size true (suc a) = refl

pub same-itself : (x : Scaled) → SameNumber x x
same-itself x = refl
