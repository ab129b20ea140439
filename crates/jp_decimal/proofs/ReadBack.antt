-- The text of a number is one of a JSON number, and writes that number.
use Rattle.std.proofs.Common.{◌≡◌, ◌*◌, ◌+◌, ◌-◌, ◌%◌, ◌^◌, ◌<◌, ◌≤◌, ◌++◌, ℕ, zero, suc, Bool}
use Rattle.std.proofs.Common.{true, false, List, [], ◌∷◌, length, get_or, take, drop, arith, sym}
use Rattle.std.proofs.Common.{ap, ◌∙◌, refl, length-append, length-drop, lt-ltb, inl, inr, lit<}
use Rattle.std.proofs.Common.{subst}
use mathlib.Core.List.{append-nil, append_assoc}
use Rattle.std.specs.Prelude.{ℤ, pos, negsuc, ◌-ℤ◌, ◌≤ℤ◌, unsigned_abs}
use Rattle.std.specs.Int.{IsInRange}
use Rattle.std.specs.Fmt.{decimal, sign_text}
use Rattle.std.specs.Str.Parse.{AllDigits, digits_value, digits_value_after}
use Rattle.std.proofs.lemmas.Bool.{cases_lt, le-ltb}
use Rattle.std.proofs.lemmas.Int.{ints}
use Rattle.std.proofs.lemmas.Fmt.{decimal_by_steps_wide, decimal_digit, decimal_is_IsNumeral_wide}
use Rattle.std.proofs.lemmas.Fmt.{length-decimal-le_wide}
use Rattle.std.proofs.lemmas.List.{length-take-le, take-append-drop}
use Rattle.std.proofs.lemmas.Str.Parse.{digit_from_value}
use Rattle.fast_float.specs.Text.{with_sign}
use Rattle.jp_decimal.proofs.Moved.{shifted-same}
use Rattle.jp_decimal.proofs.Runs.{after-append, all-dropped, tens-more}
use Rattle.jp_decimal.proofs.Same.{same-sym}
use Rattle.jp_decimal.specs.Laws.{WritesSame}
use Rattle.jp_decimal.proofs.OutOfRange.{short-of}
use Rattle.jp_decimal.proofs.OneValue.{one-value}
use Rattle.jp_decimal.specs.NumberText.{number_text, pointed, size_text, with_places, with_power}
use Rattle.jp_decimal.specs.NumberText.{zeros}
use Rattle.jp_decimal.specs.Grammar.{AreDigits, IsInt, Writes, Sign, is_minus, text_of_sign}
use Rattle.jp_decimal.specs.Grammar.{plus_sign, minus_sign}
use Rattle.jp_decimal.specs.Number.{IsNormal, scaled_of}
use Rattle.jp_decimal.specs.Scaled.{Scaled, SameNumber, is_below_zero}
use Rattle.jp_decimal.specs.TextValue.{value_of_text}
use Rattle.jp_decimal.specs.declared.number.Decimal.{Decimal as AsDecimal}
use Rattle.jp_decimal.specs.declared.number.Number.{Number}
use Rattle.jp_decimal.specs.declared.number.Number.TheVariants.{Whole, Decimal}

-- ---- digits
all-taken : (k : ℕ) (ds : List ℕ) → AllDigits 10 ds → AllDigits 10 (take k ds)
all-taken zero ds all = tt
all-taken (suc k) [] all = tt
all-taken (suc k) (d ∷ ds) all = (all.0, all-taken k ds all.1)

all-zeros : (n : ℕ) (ds : List ℕ) → AllDigits 10 ds → AllDigits 10 (zeros n ++ ds)
all-zeros zero ds all = all
all-zeros (suc n) ds all = (lit< tt, all-zeros n ds all)

value-zeros : (n : ℕ) (ds : List ℕ) → digits_value 10 (zeros n ++ ds) ≡ digits_value 10 ds
value-zeros zero ds = refl
value-zeros (suc n) ds = value-zeros n ds

length-zeros : (n : ℕ) → length (zeros n) ≡ n
length-zeros zero = refl
length-zeros (suc n) = ap suc (length-zeros n)

-- ---- the digits that `decimal` writes
record IsWritten (n : ℕ) (ds : List ℕ) : Type 0 where
  all : AllDigits 10 ds
  some : 0 < length ds
  value : digits_value 10 ds ≡ n

abbrev BeginsAboveZero : ℕ → List ℕ → Type 0
BeginsAboveZero n ds = 0 < n → (0 < length ds) × (49 ≤ get_or ds 0 0)

first-stays : (ds more : List ℕ) → 0 < length ds → 49 ≤ get_or ds 0 0 → (0 < length (ds ++ more)) × (49 ≤ get_or (ds ++ more) 0 0)
first-stays [] more some h = let no : ⊥ = omega arith in absurd no
first-stays (d ∷ ds) more some h = (omega arith, h)

begins : (n : ℕ) → n < 10 ^ 64 → BeginsAboveZero n (decimal n)
begins =
    decimal_by_steps_wide BeginsAboveZero (λ n low some. (lit< tt, omega arith))
    (λ n ds large before some. let b : (0 < length ds) × (49 ≤ get_or ds 0 0) = before (omega arith) in
    first-stays ds ((48 + n % 10) ∷ []) b.0 b.1)

written : (n : ℕ) → n < 10 ^ 64 → IsWritten n (decimal n)
written n h =
    record { all = (decimal_is_IsNumeral_wide n h).0.1; some = (decimal_is_IsNumeral_wide n h).0.0; value = (decimal_is_IsNumeral_wide n h).1 }

as-int : (ds : List ℕ) → AllDigits 10 ds → 0 < length ds → 49 ≤ get_or ds 0 0 → IsInt ds
as-int [] all some h = let no : ⊥ = omega arith in absurd no
as-int (d ∷ ds) all some h = let r : IsInRange 48 57 d = digit_from_value d all.0 in inr (d, ds, refl, h, r.1, all.1)

first-taken : (k : ℕ) (ds : List ℕ) → 0 < k → 49 ≤ get_or ds 0 0 → 49 ≤ get_or (take k ds) 0 0
first-taken zero ds some h = let no : ⊥ = omega arith in absurd no
first-taken (suc k) [] some h = h
first-taken (suc k) (d ∷ ds) some h = h

pub int-of : (n : ℕ) → n < 10 ^ 64 → IsInt (decimal n)
int-of zero h = inl (decimal_digit 0 (lit< tt))
int-of (suc n) h =
    let b : (0 < length (decimal (suc n))) × (49 ≤ get_or (decimal (suc n)) 0 0) = begins (suc n) h (omega arith) in
    as-int (decimal (suc n)) (written (suc n) h).all b.0 b.1

-- ---- the forms, each of digits behind a sign or none
abbrev At : Bool → List ℕ → ℤ → Scaled
At negative ds e = record { coefficient = with_sign negative (digits_value 10 ds); exponent = e }

plain : (negative : Bool) (ds : List ℕ) → IsInt ds → Writes (sign_text negative ++ ds) (At negative ds (pos 0))
plain negative ds int = record {
  negative = negative;
  int = ds;
  frac = [];
  fraction = [];
  exp = [];
  power = pos 0;
  is = ap (λ t. sign_text negative ++ t) (sym (append-nil ds));
  is_int = int;
  is_frac = inl (refl, refl);
  is_exp = inl (refl, refl);
  coefficient = ap (λ t. with_sign negative (digits_value 10 t)) (sym (append-nil ds));
  exponent = refl;
}

with-exponent : (negative : Bool) (sign : Sign) (ds es : List ℕ) (e : ℤ) → IsInt ds → AreDigits es → e ≡ with_sign (is_minus sign) (digits_value 10 es)
    → Writes (sign_text negative ++ (ds ++ 101 ∷ (text_of_sign sign ++ es))) (At negative ds e)
with-exponent negative sign ds es e int digits at = record {
  negative = negative;
  int = ds;
  frac = [];
  fraction = [];
  exp = 101 ∷ (text_of_sign sign ++ es);
  power = e;
  is = refl;
  is_int = int;
  is_frac = inl (refl, refl);
  is_exp = inr (record { e = 101; is_e = inl refl; sign = sign; digits = es; is = refl; are_digits = digits; value = at });
  coefficient = ap (λ t. with_sign negative (digits_value 10 t)) (sym (append-nil ds));
  exponent = omega (arith, ints);
}

with-point : (negative : Bool) (whole fraction ds : List ℕ) (e : ℤ) → IsInt whole → AreDigits fraction
    → digits_value 10 ds ≡ digits_value 10 (whole ++ fraction) → e ≡ pos 0 -ℤ pos (length fraction)
    → Writes (sign_text negative ++ (whole ++ 46 ∷ fraction)) (At negative ds e)
with-point negative whole fraction ds e int digits same at = record {
  negative = negative;
  int = whole;
  frac = 46 ∷ fraction;
  fraction = fraction;
  exp = [];
  power = pos 0;
  is = ap (λ t. sign_text negative ++ (whole ++ 46 ∷ t)) (sym (append-nil fraction));
  is_int = int;
  is_frac = inr (refl, digits);
  is_exp = inl (refl, refl);
  coefficient = ap (with_sign negative) same;
  exponent = at;
}

with-both : (negative : Bool) (sign : Sign) (whole fraction es ds : List ℕ) (power e : ℤ) → IsInt whole → AreDigits fraction → AreDigits es
    → digits_value 10 ds ≡ digits_value 10 (whole ++ fraction) → power ≡ with_sign (is_minus sign) (digits_value 10 es)
    → e ≡ power -ℤ pos (length fraction)
    → Writes (sign_text negative ++ ((whole ++ 46 ∷ fraction) ++ 101 ∷ (text_of_sign sign ++ es))) (At negative ds e)
with-both negative sign whole fraction es ds power e int digits figures same is at = record {
  negative = negative;
  int = whole;
  frac = 46 ∷ fraction;
  fraction = fraction;
  exp = 101 ∷ (text_of_sign sign ++ es);
  power = power;
  is = ap (λ t. sign_text negative ++ t) (append_assoc whole (46 ∷ fraction) (101 ∷ (text_of_sign sign ++ es)));
  is_int = int;
  is_frac = inr (refl, digits);
  is_exp = inr (record { e = 101; is_e = inl refl; sign = sign; digits = es; is = refl; are_digits = figures; value = is });
  coefficient = ap (with_sign negative) same;
  exponent = at;
}

-- a point behind the k-th digit
split : (negative : Bool) (c k n : ℕ) → c < 10 ^ 64 → 0 < c → 0 < k → k + suc n ≡ length (decimal c)
    → Writes (sign_text negative ++ pointed k (decimal c)) (At negative (decimal c) (negsuc n))
split negative c k n short above some at =
    let ds : List ℕ = decimal c in
    let w : IsWritten c ds = written c short in
    let b : (0 < length ds) × (49 ≤ get_or ds 0 0) = begins c short above in
    let behind : length (drop k ds) ≡ suc n = omega (arith, length-drop k ds, at) in
    let before : 0 < length (take k ds) = omega (arith, length-take-le k ds (omega arith), at) in
    rw (lt-ltb k (length ds) (omega arith))
    (with-point negative (take k ds) (drop k ds) ds (negsuc n) (as-int (take k ds) (all-taken k ds w.all) before (first-taken k ds some b.1))
    (record { some = omega (arith, behind); all = all-dropped k ds w.all })
    (ap (digits_value 10) (sym (take-append-drop k ds))) (omega (arith, ints, behind)))

-- a point behind the first digit, and an exponent
powered : (negative : Bool) (sign : Sign) (c n : ℕ) (power e : ℤ) → n < 10 ^ 64 → c < 10 ^ 64 → 0 < c → power ≡ with_sign (is_minus sign) n
    → e ≡ power -ℤ pos (length (decimal c) - 1)
    → Writes (sign_text negative ++ (pointed 1 (decimal c) ++ 101 ∷ (text_of_sign sign ++ decimal n))) (At negative (decimal c) e)
powered negative sign c n power e small short above is at =
    let ds : List ℕ = decimal c in
    let w : IsWritten c ds = written c short in
    let f : IsWritten n (decimal n) = written n small in
    let b : (0 < length ds) × (49 ≤ get_or ds 0 0) = begins c short above in
    let figures : AreDigits (decimal n) = record { some = f.some; all = f.all } in
    let same : power ≡ with_sign (is_minus sign) (digits_value 10 (decimal n)) = is ∙ sym (ap (with_sign (is_minus sign)) f.value) in
    elim (cases_lt 1 (length ds)) [
      | inl h ↦
          let behind : length (drop 1 ds) ≡ length ds - 1 = length-drop 1 ds in
          let before : 0 < length (take 1 ds) = omega (arith, length-take-le 1 ds (omega arith)) in
          rw (lt-ltb 1 (length ds) h)
          (with-both negative sign (take 1 ds) (drop 1 ds) (decimal n) ds power e (as-int (take 1 ds) (all-taken 1 ds w.all) before (first-taken 1 ds (lit< tt) b.1))
          (record { some = omega (arith, behind, h); all = all-dropped 1 ds w.all }) figures
          (ap (digits_value 10) (sym (take-append-drop 1 ds))) same (at ∙ ap (λ k. power -ℤ pos k) (sym behind)))
      | inr h ↦
          let one : length ds - 1 ≡ 0 = omega (arith, h) in
          let none : e ≡ power = at ∙ (ap (λ k. power -ℤ pos k) one ∙ omega (arith, ints)) in
          rw (le-ltb 1 (length ds) h)
          (with-exponent negative sign ds (decimal n) e (int-of c short) figures (none ∙ same))
    ]

places : (negative : Bool) (n c : ℕ) → suc n ≤ 10 ^ 6 → c < 10 ^ 38 → 0 < c
    → Writes (sign_text negative ++ with_places (suc n) (decimal c)) (At negative (decimal c) (negsuc n))
places negative n c small low above =
    let ds : List ℕ = decimal c in
    let short : c < 10 ^ 64 = omega (arith, low) in
    let w : IsWritten c ds = written c short in
    let few : length ds ≤ 38 = length-decimal-le_wide 38 c (lit< tt) low short in
    elim (cases_lt (suc n) (length ds)) [
      | inl h ↦
          let k : ℕ = length ds - suc n in
          rw (lt-ltb (suc n) (length ds) h)
          (elim (cases_lt k 22) [
            | inl plain ↦
                rw (lt-ltb k 22 plain) (split negative c k n short above (omega (arith, h)) (omega (arith, h)))
            | inr many ↦
                rw (le-ltb k 22 many)
                (powered negative plus_sign c (k - 1) (pos (k - 1)) (negsuc n) (omega (arith, few)) short above refl (omega (arith, ints, h)))
          ])
      | inr h ↦
          let k : ℕ = suc n - length ds in
          rw (le-ltb (suc n) (length ds) h)
          (elim (cases_lt k 6) [
            | inl close ↦
                let long : length (zeros k ++ ds) ≡ suc n = omega (arith, length-append (zeros k) ds, length-zeros k, h) in
                rw (lt-ltb k 6 close)
                (with-point negative (48 ∷ []) (zeros k ++ ds) ds (negsuc n) (inl refl) (record { some = omega (arith, long); all = all-zeros k ds w.all })
                (sym (value-zeros k ds)) (omega (arith, ints, long)))
            | inr far ↦
                let e : k + 1 ≡ suc k = omega arith in
                rw (le-ltb k 6 far)
                (powered negative minus_sign c (k + 1) (negsuc k) (negsuc n) (omega (arith, small)) short above (ap (with_sign true) (sym e)) (omega (arith, ints, h, w.some)))
          ])
    ]

pub all-behind : (ds : List ℕ) (n : ℕ) → AllDigits 10 ds → AllDigits 10 (ds ++ zeros n)
all-behind [] zero all = tt
all-behind [] (suc n) all = (lit< tt, all-behind [] n all)
all-behind (d ∷ ds) n all = (all.0, all-behind ds n all.1)

after-zeros : (v n : ℕ) → digits_value_after 10 v (zeros n) ≡ v * 10 ^ n
after-zeros v zero = omega arith
after-zeros v (suc n) =
    let m : 10 ^ suc n ≡ 10 ^ n * 10 = ap (λ k. 10 ^ k) (omega arith) ∙ tens-more n in
    let p : (v * 10 + 0) * 10 ^ n ≡ v * (10 ^ n * 10) = omega arith in
    after-zeros (v * 10 + 0) n ∙ (p ∙ ap (λ k. v * k) (sym m))

-- digits with zeros behind them
with-zeros : (negative : Bool) (c n : ℕ) → c < 10 ^ 64 → 0 < c
    → WritesSame (sign_text negative ++ (decimal c ++ zeros n)) (At negative (decimal c) (pos n))
with-zeros negative c n short above =
    let ds : List ℕ = decimal c in
    let w : IsWritten c ds = written c short in
    let b : (0 < length ds) × (49 ≤ get_or ds 0 0) = begins c short above in
    let f : (0 < length (ds ++ zeros n)) × (49 ≤ get_or (ds ++ zeros n) 0 0) = first-stays ds (zeros n) b.0 b.1 in
    let value : digits_value 10 ds * 10 ^ n ≡ digits_value 10 (ds ++ zeros n) =
    sym (after-append 0 ds (zeros n) ∙ after-zeros (digits_value 10 ds) n) in
    record {
      value = At negative (ds ++ zeros n) (pos 0);
      writes = plain negative (ds ++ zeros n) (as-int (ds ++ zeros n) (all-behind ds n w.all) f.0 f.1);
      same = same-sym (At negative ds (pos n)) (At negative (ds ++ zeros n) (pos 0))
          (shifted-same negative (digits_value 10 ds) n (digits_value 10 (ds ++ zeros n)) (pos 0) (pos n) value (omega (arith, ints)));
    }

exactly : (t : List ℕ) (x : Scaled) → Writes t x → WritesSame t x
exactly t x w = record { value = x; writes = w; same = refl }

sized : (negative : Bool) (c : ℕ) (e : ℤ) → negsuc (10 ^ 6 - 1) ≤ℤ e → e ≤ℤ pos (10 ^ 6) → c < 10 ^ 38 → 0 < c
    → WritesSame (sign_text negative ++ size_text (decimal c) e) (At negative (decimal c) e)
sized negative c (pos n) low high small above =
    let short : c < 10 ^ 64 = omega (arith, small) in
    let b : (0 < length (decimal c)) × (49 ≤ get_or (decimal c) 0 0) = begins c short above in
    let k : ℕ = length (decimal c) + n in
    elim (cases_lt k 22) [
      | inl few ↦ rw (lt-ltb k 22 few) (with-zeros negative c n short above)
      | inr many ↦
          let most : k - 1 < 10 ^ 64 = omega (arith, ints, high, length-decimal-le_wide 38 c (lit< tt) small short) in
          rw (le-ltb k 22 many)
          (exactly (sign_text negative ++ with_power false (k - 1) (decimal c)) (At negative (decimal c) (pos n))
          (powered negative plus_sign c (k - 1) (pos (k - 1)) (pos n) most short above refl (omega (arith, ints, b.0))))
    ]
sized negative c (negsuc n) low high short above =
    exactly (sign_text negative ++ with_places (suc n) (decimal c)) (At negative (decimal c) (negsuc n))
    (places negative n c (omega (arith, ints, low)) short above)

pub signed-back : (z : ℤ) → with_sign (is_below_zero z) (unsigned_abs z) ≡ z
signed-back (pos n) = refl
signed-back (negsuc n) = refl

at-size : (z e : ℤ) → unsigned_abs z < 10 ^ 64
    → At (is_below_zero z) (decimal (unsigned_abs z)) e ≡ record { coefficient = z; exponent = e }
at-size z e h =
    let p : with_sign (is_below_zero z) (digits_value 10 (decimal (unsigned_abs z))) ≡ z =
    ap (with_sign (is_below_zero z)) (written (unsigned_abs z) h).value ∙ signed-back z in
    λ i. record { coefficient = p i; exponent = e }

pub whole-text : (z : ℤ) → sign_text (is_below_zero z) ++ decimal (unsigned_abs z) ≡ number_text (Whole z)
whole-text (pos n) = refl
whole-text (negsuc n) = refl

-- the text of a number is one of a JSON number, and writes that number
pub writes-number : (n : Number) → IsNormal n → WritesSame (number_text n) (scaled_of n)
writes-number (Whole z) normal =
    let short : unsigned_abs z < 10 ^ 64 = omega (arith, short-of (Whole z) normal) in
    let t : List ℕ = sign_text (is_below_zero z) ++ decimal (unsigned_abs z) in
    subst (λ u. WritesSame u (scaled_of (Whole z))) (whole-text z)
    (subst (λ x. WritesSame t x) (at-size z (pos 0) short)
    (exactly t (At (is_below_zero z) (decimal (unsigned_abs z)) (pos 0))
    (plain (is_below_zero z) (decimal (unsigned_abs z)) (int-of (unsigned_abs z) short))))
writes-number (Decimal d) normal =
    let short : unsigned_abs d.coefficient < 10 ^ 64 = omega (arith, normal.short) in
    let above : 0 < unsigned_abs d.coefficient = omega (arith, normal.ends) in
    subst (λ x. WritesSame (number_text (Decimal d)) x) (at-size d.coefficient d.exponent short)
    (sized (is_below_zero d.coefficient) (unsigned_abs d.coefficient) d.exponent normal.low normal.high normal.short above)

-- what is read of it is the number
pub read-back : (n : Number) → IsNormal n → SameNumber (value_of_text (number_text n)) (scaled_of n)
read-back n normal =
    let w : WritesSame (number_text n) (scaled_of n) = writes-number n normal in
    subst (λ x. SameNumber x (scaled_of n)) (sym (one-value (number_text n) w.value w.writes)) w.same

-- the digits of a whole number, with the zeros behind them that its exponent stands for
pub writes-digits : (d : AsDecimal) (n : ℕ) → IsNormal (Decimal d) → d.exponent ≡ pos n
    → WritesSame (sign_text (is_below_zero d.coefficient) ++ (decimal (unsigned_abs d.coefficient) ++ zeros n)) (scaled_of (Decimal d))
writes-digits d n normal at =
    let negative : Bool = is_below_zero d.coefficient in
    let size : ℕ = unsigned_abs d.coefficient in
    let short : size < 10 ^ 64 = omega (arith, normal.short) in
    let above : 0 < size = omega (arith, normal.ends) in
    let t : List ℕ = sign_text negative ++ (decimal size ++ zeros n) in
    subst (λ x. WritesSame t x) (at-size d.coefficient d.exponent short)
    (subst (λ e. WritesSame t (At negative (decimal size) e)) (sym at) (with-zeros negative size n short above))

-- digits with zeros behind them are those of a whole number
pub digits-int : (c n : ℕ) → c < 10 ^ 64 → 0 < c → IsInt (decimal c ++ zeros n)
digits-int c n short above =
    let ds : List ℕ = decimal c in
    let b : (0 < length ds) × (49 ≤ get_or ds 0 0) = begins c short above in
    let f : (0 < length (ds ++ zeros n)) × (49 ≤ get_or (ds ++ zeros n) 0 0) = first-stays ds (zeros n) b.0 b.1 in
    as-int (ds ++ zeros n) (all-behind ds n (written c short).all) f.0 f.1
