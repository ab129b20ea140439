-- Powers of ten, and how products with them stand.
use Rattle.std.proofs.Common.{◌≡◌, ◌≢◌, ◌+◌, ◌-◌, ◌*◌, ◌/◌, ◌^◌, ◌<◌, ◌≤◌, ℕ, suc, arith, subst}
use Rattle.std.proofs.Common.{sym, ap, ◌∙◌, lit<, inl, inr}
use Rattle.std.proofs.lemmas.Bool.{cases_lt}
use Rattle.std.proofs.Math.Nat.{one-le-pow, pow-le-pow_right, div-lt_iff_lt-mul, le-div_iff_mul-le}
use Rattle.std.proofs.Math.Nat.{mul-div_cancel, mul-le-mul_right}
use Rattle.std.proofs.lemmas.Nat.{pow-add}
use Rattle.std.specs.Ordering.{nat_cmp}
use Rattle.std.specs.declared.cmp.Ordering.TheVariants.{Greater}

pub tens-pos : (k : ℕ) → 0 < 10 ^ k
tens-pos k = omega (arith, one-le-pow k 10 (lit< tt))

pub tens-le : (i j : ℕ) → i ≤ j → 10 ^ i ≤ 10 ^ j
tens-le i j h = pow-le-pow_right (lit< tt) h

pub greater : (a b : ℕ) → b < a → Greater ≡ nat_cmp a b
greater a b h = grind arith

-- a positive number grows at least to the power
pub above-tens : (a k : ℕ) → a ≢ 0 → 10 ^ k ≤ a * 10 ^ k
above-tens a k some =
    let h : 1 * 10 ^ k ≤ a * 10 ^ k = grind arith in omega arith

-- a quotient below a says that a times the divisor is above
pub above-quotient : (a b p q : ℕ) → 0 < p → p ≡ q → b / p < a → b < a * q
above-quotient a b p q some is h = subst (λ k. b < a * k) is ((div-lt_iff_lt-mul some).0 h)

-- ---- ten to the 38 over a smaller power
tens-split : (k : ℕ) → k ≤ 38 → 10 ^ (38 - k) * 10 ^ k ≡ 10 ^ 38
tens-split k h =
    let e : 38 - k + k ≡ 38 = omega arith in sym (pow-add 10 (38 - k) k) ∙ ap (λ n. 10 ^ n) e

-- too large, once grown
pub outgrown : (size k digit p : ℕ) → k ≤ 38 → p ≡ 10 ^ k → 10 ^ 38 / p ≤ size
    → 10 ^ 38 ≤ size * 10 ^ k + digit
outgrown size k digit p h is large =
    let e : 10 ^ 38 / 10 ^ k ≡ 10 ^ (38 - k) =
    ap (λ n. n / 10 ^ k) (sym (tens-split k h)) ∙ mul-div_cancel (10 ^ (38 - k)) (tens-pos k) in
    let low : 10 ^ (38 - k) ≤ size = omega (arith, e, ap (λ n. 10 ^ 38 / n) is, large) in
    omega (arith, tens-split k h, mul-le-mul_right (10 ^ k) low)

-- and not too large
pub ingrown : (size k digit p : ℕ) → 0 < k → p ≡ 10 ^ k → size < 10 ^ 38 / p → digit < 10
    → size * 10 ^ k + digit < 10 ^ 38
ingrown size k digit p some is small low =
    let q : size < 10 ^ 38 / 10 ^ k = omega (arith, ap (λ n. 10 ^ 38 / n) is, small) in
    let r : suc size * 10 ^ k ≤ 10 ^ 38 = (le-div_iff_mul-le (tens-pos k)).0 q in
    let s : 10 ^ 1 ≤ 10 ^ k = tens-le 1 k (omega arith) in
    let t : suc size * 10 ^ k ≡ size * 10 ^ k + 10 ^ k = omega arith in
    omega (arith, r, s, t, low)

-- a number of 64 bits has fewer than 20 zeros at its end
pub few-zeros : (a k : ℕ) → 0 < a → a * 10 ^ k < 2 ^ 64 → k < 20
few-zeros a k some small =
    elim (cases_lt k 20) [
      | inl h ↦ h
      | inr h ↦
          let p : 10 ^ 20 ≤ 10 ^ k = tens-le 20 k h in
          let no : ⊥ = omega (arith, p, above-tens a k (λ e. omega (arith, e, some)), small) in absurd no
    ]
