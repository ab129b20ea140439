-- Whole numbers as they were, and the test of decimals.
use Rattle.std.proofs.Common.{◌≡◌, ◌↔◌, ◌-◌, ◌%◌, ◌^◌, ℕ, Bool, true, false, List, [], ◌∷◌, length}
use Rattle.std.proofs.Common.{arith, ap, ◌∙◌, refl}
use Rattle.std.specs.Prelude.{ℤ, pos, negsuc, ◌-ℤ◌, ◌≤ℤ◌, unsigned_abs, ◌&&◌, not, int_lt, nat_lt}
use Rattle.std.specs.Prelude.{◌==◌}
use Rattle.std.specs.Float.Numeral.{scan_numeral}
use Rattle.std.specs.Str.Parse.{digits_value}
use Rattle.std.proofs.lemmas.Bool.{eqb-false, false≢true, lt-ltb, ltb-true, ne_eqb}
use Rattle.std.proofs.lemmas.Int.{ints}
use Rattle.fast_float.specs.Text.{IsInteger, digits_of, scan, with_sign}
use Rattle.jp_decimal.specs.Number.{IsDecimal, is_decimal, is_whole_64, unscaled}
use Rattle.jp_decimal.specs.Scaled.{Scaled}
use Rattle.jp_decimal.specs.TextValue.{exponent_of, value_of_parts}

no-digits : (ds : List ℕ) → length ds ≡ 0 → ds ≡ []
no-digits [] e = refl
no-digits (d ∷ ds) e = let no : ⊥ = omega (arith, e) in absurd no

no-fraction : (s : List ℕ) → (scan s).point ≡ false → (scan s).fraction ≡ []
unfolding scan_numeral
no-fraction s e = rw e refl

no-power : (sign : Bool) → with_sign sign 0 -ℤ pos 0 ≡ pos 0
no-power true = refl
no-power false = refl

pub integers-stay : (negative : Bool) (s : List ℕ) → IsInteger (scan s)
    → value_of_parts negative (scan s) ≡ unscaled (with_sign negative (digits_of (scan s)))
integers-stay negative s h =
    let p : exponent_of (scan s) ≡ pos 0 =
    ap (λ ds. with_sign (scan s).exponent_negative (digits_value 10 ds) -ℤ pos (length (scan s).fraction)) (no-digits (scan s).exponent h.2)
    ∙ (ap (λ ds. with_sign (scan s).exponent_negative 0 -ℤ pos (length ds)) (no-fraction s h.1) ∙ no-power (scan s).exponent_negative) in
    λ i. record { coefficient = with_sign negative (digits_of (scan s)); exponent = p i }

-- ---- tests
record AllTrue (a b c d e : Bool) : Type 0 where
  one : a ≡ true
  two : b ≡ true
  three : c ≡ true
  four : d ≡ true
  five : e ≡ true

all-true : (a b c d e : Bool) → (a && b && c && d && e) ≡ true → AllTrue a b c d e
all-true true true true true true h = record { one = refl; two = refl; three = refl; four = refl; five = refl }
all-true true true true true false h = absurd (false≢true h)
all-true true true true false e h = absurd (false≢true h)
all-true true true false d e h = absurd (false≢true h)
all-true true false c d e h = absurd (false≢true h)
all-true false b c d e h = absurd (false≢true h)

true-all : (a b c d e : Bool) → AllTrue a b c d e → (a && b && c && d && e) ≡ true
true-all a b c d e h = rw (h.one, h.two, h.three, h.four, h.five) refl

is-false : (b : Bool) → not b ≡ true → b ≡ false
is-false true h = absurd (false≢true h)
is-false false h = refl

is-true : (b : Bool) → b ≡ false → not b ≡ true
is-true b h = rw h refl

not-under : (a b : ℤ) → b ≤ℤ a → int_lt a b ≡ false
not-under a b h = grind (arith, ints)

pub decimal-told : (x : Scaled) → is_decimal x.coefficient x.exponent ≡ true ↔ IsDecimal x
decimal-told x =
    let a : Bool = nat_lt (unsigned_abs x.coefficient) (10 ^ 38) in
    let b : Bool = unsigned_abs x.coefficient % 10 == 0 in
    let c : Bool = int_lt x.exponent (negsuc (10 ^ 6 - 1)) in
    let d : Bool = int_lt (pos (10 ^ 6)) x.exponent in
    let e : Bool = is_whole_64 x.coefficient x.exponent in (
      λ h.
          let t : AllTrue a (not b) (not c) (not d) (not e) = all-true a (not b) (not c) (not d) (not e) h in
          let p : c ≡ false = is-false c t.three in
          let q : d ≡ false = is-false d t.four in
          record {
            short = ltb-true (unsigned_abs x.coefficient) (10 ^ 38) t.one;
            ends = eqb-false (unsigned_abs x.coefficient % 10) 0 (is-false b t.two);
            low = omega (arith, ints, p);
            high = omega (arith, ints, q);
            apart = is-false e t.five;
          },
      λ n.
          let p : c ≡ false = not-under x.exponent (negsuc (10 ^ 6 - 1)) n.low in
          let q : d ≡ false = not-under (pos (10 ^ 6)) x.exponent n.high in
          true-all a (not b) (not c) (not d) (not e) (record {
            one = lt-ltb (unsigned_abs x.coefficient) (10 ^ 38) n.short;
            two = is-true b (ne_eqb (unsigned_abs x.coefficient % 10) 0 n.ends);
            three = is-true c p;
            four = is-true d q;
            five = is-true e n.apart;
          }),
    )
