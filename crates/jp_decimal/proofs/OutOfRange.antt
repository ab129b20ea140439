-- Numbers that cannot be held.
use Rattle.std.proofs.Common.{◌≡◌, ◌≢◌, ◌-◌, ◌*◌, ◌%◌, ◌^◌, ◌<◌, ◌≤◌, ℕ, zero, suc, arith, sym, ap}
use Rattle.std.proofs.Common.{◌∙◌, refl, ◌⊎◌, inl, inr}
use Rattle.std.specs.Prelude.{ℤ, pos, negsuc, ◌*ℤ◌, ◌-ℤ◌, ◌≤ℤ◌, ◌<ℤ◌, unsigned_abs, Bool, true}
use Rattle.std.specs.Prelude.{false}
use Rattle.std.proofs.lemmas.Int.{ints}
use Rattle.std.proofs.lemmas.Bool.{false≢true}
use Rattle.std.proofs.Math.Nat.{mul-le-mul_left, mul-le-mul_right}
use Rattle.fast_float.specs.Text.{with_sign}
use Rattle.jp_decimal.proofs.Order.{from_zero-is}
use Rattle.jp_decimal.proofs.Powers.{tens-pos, tens-le}
use Rattle.jp_decimal.proofs.Same.{ends-in-zero, one-form, one-gap, same-sizes, signed-size}
use Rattle.jp_decimal.proofs.Same.{signed-times, times-one}
use Rattle.jp_decimal.specs.Scaled.{Scaled, SameNumber, from_zero}
use Rattle.jp_decimal.specs.Number.{IsNormal, is_in_64_bits, is_whole_64, scaled_of, scaled_decimal}
use Rattle.jp_decimal.specs.Number.{unscaled}
use Rattle.jp_decimal.specs.NormalForm.{IsOutOfRange}
use Rattle.jp_decimal.specs.Private.Runs.{IsLong}
use Rattle.jp_decimal.specs.declared.number.Number.{Number}
use Rattle.jp_decimal.specs.declared.number.Number.TheVariants.{Whole, Decimal}

-- ---- more than 38 digits
small-64 : (z : ℤ) → is_in_64_bits z ≡ true → unsigned_abs z < 10 ^ 38
small-64 (pos n) h = let low : n < 2 ^ 64 = grind arith in omega (arith, low)
small-64 (negsuc n) h = let low : n < 2 ^ 63 = grind arith in omega (arith, low)

pub short-of : (n : Number) → IsNormal n → unsigned_abs (scaled_of n).coefficient < 10 ^ 38
short-of (Whole z) h = small-64 z h
short-of (Decimal d) h = h.short

too-many : (c v i j : ℕ) → c * 10 ^ i ≡ v * 10 ^ j → (i ≡ 0) ⊎ (j ≡ 0) → c < 10 ^ 38 → IsLong v → ⊥
too-many c v i j e one small long =
    let large : 10 ^ 38 ≤ v = long v 0 (omega arith) in
    elim one [
      | inl h ↦
          let p : c ≡ v * 10 ^ j = (let q : c * 10 ^ 0 ≡ v * 10 ^ j = ap (λ n. c * 10 ^ n) (sym h) ∙ e in omega (arith, q)) in
          let some : 0 < 10 ^ j = tens-pos j in
          let more : v * 1 ≤ v * 10 ^ j = mul-le-mul_left v some in
          omega (arith, p, more, large, small)
      | inr h ↦
          let q : c * 10 ^ i ≡ v = (let r : c * 10 ^ i ≡ v * 10 ^ 0 = e ∙ ap (λ n. v * 10 ^ n) h in omega (arith, r)) in
          omega (arith, long c i q, small)
    ]

pub long-out-of-range : (negative : Bool) (v : ℕ) (e : ℤ) → IsLong v → IsOutOfRange (record { coefficient = with_sign negative v; exponent = e })
long-out-of-range negative v e long n normal same =
    let y : Scaled = record { coefficient = with_sign negative v; exponent = e } in
    let s : unsigned_abs (scaled_of n).coefficient * 10 ^ from_zero ((scaled_of n).exponent -ℤ e)
    ≡ v * 10 ^ from_zero (e -ℤ (scaled_of n).exponent) =
    same-sizes (scaled_of n) y same ∙ ap (λ k. k * 10 ^ from_zero (e -ℤ (scaled_of n).exponent)) (signed-size negative v) in
    too-many (unsigned_abs (scaled_of n).coefficient) v _ _ s (one-gap (scaled_of n).exponent e) (short-of n normal) long

-- ---- an exponent out of range
-- a whole number of 64 bits that is the same number is found as one
pub whole-is-found : (z c e : ℤ) → is_in_64_bits z ≡ true → unsigned_abs c % 10 ≢ 0
    → SameNumber (unscaled z) (record { coefficient = c; exponent = e }) → is_whole_64 c e ≡ true
whole-is-found z c (pos m) fits some same =
    let i : from_zero (pos 0 -ℤ pos m) ≡ 0 = omega (arith, ints, from_zero-is (pos 0 -ℤ pos m)) in
    let j : from_zero (pos m -ℤ pos 0) ≡ m = omega (arith, ints, from_zero-is (pos m -ℤ pos 0)) in
    let left : z *ℤ pos (10 ^ from_zero (pos 0 -ℤ pos m)) ≡ z = ap (λ n. z *ℤ pos (10 ^ n)) i ∙ times-one z in
    let right : c *ℤ pos (10 ^ from_zero (pos m -ℤ pos 0)) ≡ c *ℤ pos (10 ^ m) = ap (λ n. c *ℤ pos (10 ^ n)) j in
    ap is_in_64_bits (sym (sym left ∙ (same ∙ right))) ∙ fits
whole-is-found z c (negsuc m) fits some same =
    let i : from_zero (pos 0 -ℤ negsuc m) ≡ suc m = omega (arith, ints, from_zero-is (pos 0 -ℤ negsuc m)) in
    let j : from_zero (negsuc m -ℤ pos 0) ≡ 0 = omega (arith, ints, from_zero-is (negsuc m -ℤ pos 0)) in
    let s : unsigned_abs z * 10 ^ from_zero (pos 0 -ℤ negsuc m) ≡ unsigned_abs c * 10 ^ from_zero (negsuc m -ℤ pos 0) =
    same-sizes (unscaled z) (record { coefficient = c; exponent = negsuc m }) same in
    let t : unsigned_abs z * 10 ^ suc m ≡ unsigned_abs c * 10 ^ 0 =
    ap (λ n. unsigned_abs z * 10 ^ n) (sym i) ∙ (s ∙ ap (λ n. unsigned_abs c * 10 ^ n) j) in
    let u : (unsigned_abs z * 10 ^ suc m) % 10 ≡ 0 = ends-in-zero (unsigned_abs z) (suc m) (omega arith) in
    absurd (some (omega (arith, t, u)))

pub far-out-of-range : (x : Scaled) → unsigned_abs x.coefficient % 10 ≢ 0 → is_whole_64 x.coefficient x.exponent ≡ false
    → (x.exponent <ℤ negsuc (10 ^ 6 - 1)) ⊎ (pos (10 ^ 6) <ℤ x.exponent) → IsOutOfRange x
far-out-of-range x some apart far (Whole z) normal same =
    let found : is_whole_64 x.coefficient x.exponent ≡ true = whole-is-found z x.coefficient x.exponent normal some same in
    false≢true (sym apart ∙ found)
far-out-of-range x some apart far (Decimal d) normal same =
    let e : d.exponent ≡ x.exponent = (one-form (scaled_decimal d) x normal.ends some same).1 in
    elim far [ inl h ↦ omega (arith, ints, e, h, normal.low) | inr h ↦ omega (arith, ints, e, h, normal.high) ]

-- ---- whole numbers of more than 64 bits
pub big-apart : (negative : Bool) (size n : ℕ) → 2 ^ 64 ≤ size * 10 ^ n → is_whole_64 (with_sign negative size) (pos n) ≡ false
big-apart negative size n large = rw (signed-times negative size (10 ^ n) (tens-pos n)) (too-big negative (size * 10 ^ n) large)
  where
    too-big : (negative : Bool) (a : ℕ) → 2 ^ 64 ≤ a → is_in_64_bits (with_sign negative a) ≡ false
    too-big false a h = grind arith
    too-big true zero h = let no : ⊥ = omega (arith, h) in absurd no
    too-big true (suc a) h = grind arith

pub large-apart : (negative : Bool) (size : ℕ) (e : ℤ) → pos 0 ≤ℤ e → 2 ^ 64 ≤ size → is_whole_64 (with_sign negative size) e ≡ false
large-apart negative size (negsuc n) from large = refl
large-apart negative size (pos n) from large =
    let some : 0 < 10 ^ n = tens-pos n in
    let more : size * 1 ≤ size * 10 ^ n = mul-le-mul_left size some in
    big-apart negative size n (omega (arith, more, large))

pub far-apart : (negative : Bool) (size : ℕ) (e : ℤ) → 0 < size → pos 19 <ℤ e → is_whole_64 (with_sign negative size) e ≡ false
far-apart negative size (negsuc n) some far = refl
far-apart negative size (pos n) some far =
    let low : 20 ≤ n = omega (arith, ints, far) in
    let power : 10 ^ 20 ≤ 10 ^ n = tens-le 20 n low in
    let more : 1 * 10 ^ n ≤ size * 10 ^ n = mul-le-mul_right (10 ^ n) some in
    big-apart negative size n (omega (arith, more, power))
