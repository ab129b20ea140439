-- One number with its zeros counted in the exponent, and without.
use Rattle.std.proofs.Common.{◌≡◌, ◌≢◌, ◌-◌, ◌*◌, ◌%◌, ◌^◌, ◌<◌, ◌≤◌, ℕ, arith, sym, ap, ◌∙◌, inl}
use Rattle.std.proofs.Common.{inr, ◌⊎◌, refl, to_z, of_z, Option, Some, None}
use Rattle.std.specs.Prelude.{ℤ, pos, negsuc, ◌*ℤ◌, ◌+ℤ◌, ◌-ℤ◌, ◌≤ℤ◌, ◌<ℤ◌, unsigned_abs, neg_ℤ}
use Rattle.std.specs.Prelude.{Bool, true, false}
use Rattle.std.specs.Int.{w128}
use Rattle.std.specs.Option.{MatchOption}
use Rattle.std.proofs.lemmas.Int.{ints}
use Rattle.fast_float.specs.Text.{with_sign}
use Rattle.jp_decimal.proofs.Order.{from_zero-is}
use Rattle.jp_decimal.proofs.Powers.{tens-pos}
use Rattle.jp_decimal.proofs.Same.{same-sym, same-trans, signed-size, signed-times, times-one}
use Rattle.jp_decimal.proofs.OutOfRange.{far-apart, far-out-of-range}
use Rattle.jp_decimal.specs.Scaled.{Scaled, SameNumber, from_zero}
use Rattle.jp_decimal.specs.Number.{is_whole_64, scaled_of}
use Rattle.jp_decimal.specs.NormalForm.{IsHeldAs, IsOutOfRange}
use Rattle.jp_decimal.specs.declared.number.Number.{Number}

-- a size behind a sign or none, at an exponent
abbrev pub signed_at : Bool → ℕ → ℤ → Scaled
signed_at negative size e = record { coefficient = with_sign negative size; exponent = e }

pub shifted-same : (negative : Bool) (size zeros v : ℕ) (e f : ℤ) → size * 10 ^ zeros ≡ v → f ≡ e +ℤ pos zeros
    → SameNumber (signed_at negative size f) (signed_at negative v e)
shifted-same negative size zeros v e f is at =
    let i : from_zero (f -ℤ e) ≡ zeros = omega (arith, ints, at, from_zero-is (f -ℤ e)) in
    let j : from_zero (e -ℤ f) ≡ 0 = omega (arith, ints, at, from_zero-is (e -ℤ f)) in
    let left : with_sign negative size *ℤ pos (10 ^ from_zero (f -ℤ e)) ≡ with_sign negative v =
    ap (λ n. with_sign negative size *ℤ pos (10 ^ n)) i ∙ (signed-times negative size (10 ^ zeros) (tens-pos zeros) ∙ ap (with_sign negative) is) in
    let right : with_sign negative v *ℤ pos (10 ^ from_zero (e -ℤ f)) ≡ with_sign negative v =
    ap (λ n. with_sign negative v *ℤ pos (10 ^ n)) j ∙ times-one (with_sign negative v) in
    left ∙ sym right

pub out-of-range-moved : (x y : Scaled) → SameNumber y x → IsOutOfRange y → IsOutOfRange x
out-of-range-moved x y e long n normal same = long n normal (same-trans (scaled_of n) x y same (same-sym y x e))

pub answer-moved : (x y : Scaled) (r : Option Number) → SameNumber y x → MatchOption r (IsOutOfRange y) (IsHeldAs y)
    → MatchOption r (IsOutOfRange x) (IsHeldAs x)
answer-moved x y None e long = out-of-range-moved x y e long
answer-moved x y (Some n) e held = record { normal = held.normal; same = same-trans (scaled_of n) y x held.same e }

pub answer-shifted : (negative : Bool) (size zeros v : ℕ) (e f : ℤ) (r : Option Number)
    → MatchOption r (IsOutOfRange (signed_at negative size f)) (IsHeldAs (signed_at negative size f))
    → size * 10 ^ zeros ≡ v → f ≡ e +ℤ pos zeros
    → MatchOption r (IsOutOfRange (signed_at negative v e)) (IsHeldAs (signed_at negative v e))
answer-shifted negative size zeros v e f r answer is at =
    answer-moved (signed_at negative v e) (signed_at negative size f) r (shifted-same negative size zeros v e f is at) answer

-- ---- an exponent of more than 64 bits
below-apart : (c e : ℤ) → e <ℤ pos 0 → is_whole_64 c e ≡ false
below-apart c (negsuc n) h = refl
below-apart c (pos n) h = let no : ⊥ = omega (arith, ints, h) in absurd no

exponent-far : (negative sign : Bool) (size zeros power fraction : ℕ) → size ≢ 0 → 2 ^ 64 - 1 ≤ power → zeros < 2 ^ 63 → fraction < 2 ^ 63
    → let f : ℤ = with_sign sign power -ℤ pos fraction +ℤ pos zeros in
    (is_whole_64 (with_sign negative size) f ≡ false) × ((f <ℤ negsuc (10 ^ 6 - 1)) ⊎ (pos (10 ^ 6) <ℤ f))
exponent-far negative false size zeros power fraction some large low short =
    let f : ℤ = pos power -ℤ pos fraction +ℤ pos zeros in
    let far : pos (10 ^ 6) <ℤ f = omega (arith, ints, large, short) in
    let over : pos 19 <ℤ f = omega (arith, ints, far) in
    (far-apart negative size f (omega (arith, some)) over, inr far)
exponent-far negative true size zeros power fraction some large low short =
    let f : ℤ = neg_ℤ (pos power) -ℤ pos fraction +ℤ pos zeros in
    let far : f <ℤ negsuc (10 ^ 6 - 1) = omega (arith, ints, large, low) in
    let under : f <ℤ pos 0 = omega (arith, ints, far) in
    (below-apart (with_sign negative size) f under, inl far)

pub exponent-out-of-range : (negative sign : Bool) (size zeros power fraction v : ℕ) → size ≢ 0 → size % 10 ≢ 0 → size * 10 ^ zeros ≡ v
    → 2 ^ 64 - 1 ≤ power → zeros < 2 ^ 63 → fraction < 2 ^ 63
    → IsOutOfRange (signed_at negative v (with_sign sign power -ℤ pos fraction))
exponent-out-of-range negative sign size zeros power fraction v some ends is large low short =
    let e : ℤ = with_sign sign power -ℤ pos fraction in
    let f : ℤ = e +ℤ pos zeros in
    let y : Scaled = signed_at negative size f in
    let last : unsigned_abs (with_sign negative size) % 10 ≢ 0 = rw (signed-size negative size) ends in
    let far : (is_whole_64 (with_sign negative size) f ≡ false) × ((f <ℤ negsuc (10 ^ 6 - 1)) ⊎ (pos (10 ^ 6) <ℤ f)) =
    exponent-far negative sign size zeros power fraction some large low short in
    out-of-range-moved (signed_at negative v e) y (shifted-same negative size zeros v e f is refl)
    (far-out-of-range y last far.0 far.1)

pub signed-bounds : (sign : Bool) (power : ℕ) → power < 2 ^ 64
    → (negsuc (2 ^ 64) ≤ℤ with_sign sign power) × (with_sign sign power ≤ℤ pos (2 ^ 64))
signed-bounds false power h = (omega (arith, ints), omega (arith, ints, h))
signed-bounds true power h = (omega (arith, ints, h), omega (arith, ints))

-- the exponent as it is computed
pub exponent-is : (s z : ℤ) (length zeros : ℕ) → negsuc (2 ^ 64) ≤ℤ s → s ≤ℤ pos (2 ^ 64) → z ≡ pos zeros → zeros < 2 ^ 63 → length < 2 ^ 63
    → to_z w128 (of_z w128 (to_z w128 (of_z w128 s) +ℤ to_z w128 (of_z w128 (to_z w128 (of_z w128 z) -ℤ to_z w128 length))))
    ≡ s -ℤ pos length +ℤ pos zeros
exponent-is s z length count low high is small short = omega (arith, ints, low, high, is, small, short)
