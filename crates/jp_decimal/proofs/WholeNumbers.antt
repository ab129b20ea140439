-- Whole numbers, as `serde_json` reads them.
use Rattle.std.proofs.Common.{◌≡◌, ◌^◌, ℕ, Bool, true, false, cond, ◌&&◌, eqb, ltb, leb, List}
use Rattle.std.proofs.Common.{length, drop, get_or, Some, None, ap, ◌∙◌, refl}
use Rattle.std.specs.Prelude.{ℤ, pos, not}
use Rattle.std.specs.Float.{Float, binary64, float_is_finite}
use Rattle.std.proofs.lemmas.Bool.{eqb-true, false≢true, ltb-true}
use Rattle.fast_float.specs.Text.{IsInteger, Parts, digits_of, nearest, scan, with_sign}
use Rattle.serde_json.specs.Data.{Num, float, negative, unsigned}
use Rattle.serde_json.specs.Read.{float_of, is_integer, number_from, number_of}
use Rattle.jp_decimal.proofs.Told.{integers-stay}
use Rattle.jp_decimal.specs.Number.{unscaled}
use Rattle.jp_decimal.specs.TextValue.{value_of_parts, value_of_text}

both : (a b c : Bool) → (a && b && c) ≡ true → (a ≡ true) × (b ≡ true) × (c ≡ true)
both true true true h = (refl, refl, refl)
both true true false h = absurd (false≢true h)
both true false c h = absurd (false≢true h)
both false b c h = absurd (false≢true h)

first-two : (a b : Bool) → (a && b) ≡ true → (a ≡ true) × (b ≡ true)
first-two true true h = (refl, refl)
first-two true false h = absurd (false≢true h)
first-two false b h = absurd (false≢true h)

was-false : (b : Bool) → not b ≡ true → b ≡ false
was-false true h = absurd (false≢true h)
was-false false h = refl

integer-told : (p : Parts) → is_integer p ≡ true → IsInteger p
integer-told p h =
    let t : (ltb 0 (length p.whole) ≡ true) × (not p.point ≡ true) × (eqb (length p.exponent) 0 ≡ true) =
    both (ltb 0 (length p.whole)) (not p.point) (eqb (length p.exponent) 0) h in
    (ltb-true 0 (length p.whole) t.0, was-false p.point t.1, eqb-true (length p.exponent) 0 t.2)

-- a float is no whole number
no-float : (finite : Bool) (x : Float) (n : Num) → cond finite (Some (float x)) None ≡ Some n → n ≡ float x
no-float true x n e = cc
no-float false x n e = absurd (cc)

above : (p : Parts) (n : ℕ) (b : Bool) → (is_integer p && ltb (digits_of p) (2 ^ 64)) ≡ b
    → cond b (Some (unsigned (digits_of p))) (float_of false p) ≡ Some (unsigned n) → IsInteger p × (digits_of p ≡ n)
above p n true h e =
    (integer-told p (first-two (is_integer p) (ltb (digits_of p) (2 ^ 64)) h).0, (let same : unsigned (digits_of p) ≡ unsigned n = cc in cc))
above p n false h e =
    let f : unsigned n ≡ float (nearest binary64 false p) = no-float (float_is_finite (nearest binary64 false p)) (nearest binary64 false p) (unsigned n) e in
    absurd (cc)

above-never : (p : Parts) (n : ℕ) (b : Bool)
    → cond b (Some (negative (with_sign true (digits_of p)))) (float_of true p) ≡ Some (unsigned n) → ⊥
above-never p n true e = cc
above-never p n false e =
    let f : unsigned n ≡ float (nearest binary64 true p) = no-float (float_is_finite (nearest binary64 true p)) (nearest binary64 true p) (unsigned n) e in
    cc

below : (p : Parts) (z : ℤ) (b : Bool) → (is_integer p && ltb 0 (digits_of p) && leb (digits_of p) (2 ^ 63)) ≡ b
    → cond b (Some (negative (with_sign true (digits_of p)))) (float_of true p) ≡ Some (negative z) → IsInteger p × (with_sign true (digits_of p) ≡ z)
below p z true h e = (
  integer-told p (both (is_integer p) (ltb 0 (digits_of p)) (leb (digits_of p) (2 ^ 63)) h).0,
  (let same : negative (with_sign true (digits_of p)) ≡ negative z = cc in cc),
)
below p z false h e =
    let f : negative z ≡ float (nearest binary64 true p) = no-float (float_is_finite (nearest binary64 true p)) (nearest binary64 true p) (negative z) e in
    absurd (cc)

below-never : (p : Parts) (z : ℤ) (b : Bool)
    → cond b (Some (unsigned (digits_of p))) (float_of false p) ≡ Some (negative z) → ⊥
below-never p z true e = cc
below-never p z false e =
    let f : negative z ≡ float (nearest binary64 false p) = no-float (float_is_finite (nearest binary64 false p)) (nearest binary64 false p) (negative z) e in
    cc

from-zero-by : (s : List ℕ) (n : ℕ) (b : Bool) → cond b (number_from true (scan (drop 1 s))) (number_from false (scan s)) ≡ Some (unsigned n)
    → cond b (value_of_parts true (scan (drop 1 s))) (value_of_parts false (scan s)) ≡ unscaled (pos n)
from-zero-by s n true e =
    absurd (above-never (scan (drop 1 s)) n (is_integer (scan (drop 1 s)) && ltb 0 (digits_of (scan (drop 1 s))) && leb (digits_of (scan (drop 1 s))) (2 ^ 63)) e)
from-zero-by s n false e =
    let t : IsInteger (scan s) × (digits_of (scan s) ≡ n) = above (scan s) n (is_integer (scan s) && ltb (digits_of (scan s)) (2 ^ 64)) refl e in
    integers-stay false s t.0 ∙ ap (λ k. unscaled (pos k)) t.1

below-zero-by : (s : List ℕ) (z : ℤ) (b : Bool) → cond b (number_from true (scan (drop 1 s))) (number_from false (scan s)) ≡ Some (negative z)
    → cond b (value_of_parts true (scan (drop 1 s))) (value_of_parts false (scan s)) ≡ unscaled z
below-zero-by s z true e =
    let p : Parts = scan (drop 1 s) in
    let t : IsInteger p × (with_sign true (digits_of p) ≡ z) = below p z (is_integer p && ltb 0 (digits_of p) && leb (digits_of p) (2 ^ 63)) refl e in
    integers-stay true (drop 1 s) t.0 ∙ ap unscaled t.1
below-zero-by s z false e = absurd (below-never (scan s) z (is_integer (scan s) && ltb (digits_of (scan s)) (2 ^ 64)) e)

-- a text that `serde_json` reads as a whole number writes that number
pub from-zero : (s : List ℕ) (n : ℕ) → number_of s ≡ Some (unsigned n) → value_of_text s ≡ unscaled (pos n)
unfolding number_of
from-zero s n e = from-zero-by s n (eqb (get_or s 0 0) 45) e

pub below-zero : (s : List ℕ) (z : ℤ) → number_of s ≡ Some (negative z) → value_of_text s ≡ unscaled z
unfolding number_of
below-zero s z e = below-zero-by s z (eqb (get_or s 0 0) 45) e
