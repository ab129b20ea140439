-- The canonical texts of decimals spell them.
use Rattle.std.proofs.Common.{◌≡◌, ◌≢◌, ◌*◌, ◌^◌, ◌%◌, ◌<◌, ◌≤◌, ◌||◌, ℕ, suc, Bool}
use Rattle.std.proofs.Common.{true, false, [], ◌∷◌, ◌++◌, Option, Some, None, MatchOption, inl, inr, ◌⊎◌}
use Rattle.std.proofs.Common.{refl, sym, ap, subst, ◌∙◌, arith, append-nil, lit<, cond, codes}
use mathlib.Core.List.{append_assoc}
use Rattle.std.specs.Prelude.{ℤ, pos, negsuc, ◌-ℤ◌, unsigned_abs}
use Rattle.std.specs.Float.Numeral.{scan_numeral}
use Rattle.std.specs.Fmt.{decimal, sign_text, signed_decimal}
use Rattle.std.specs.Int.{IsInRange}
use Rattle.std.specs.List.{list_all, list_any}
use Rattle.std.specs.Str.Parse.{AllDigits, digits_value}
use Rattle.std.proofs.lemmas.Bool.{and_parts}
use Rattle.std.proofs.lemmas.Bool.Decides.{nat_tests}
use Rattle.std.proofs.lemmas.Int.{ints}
use Rattle.std.proofs.lemmas.Str.Parse.{digit_from_value, tells_digits}
use Rattle.fast_float.specs.Text.{with_sign}
use Rattle.jp_decimal.specs.Grammar.{AreDigits, IsExp, IsFrac, IsInt, Sign, Writes, minus_sign, no_sign}
use Rattle.jp_decimal.specs.Grammar.{plus_sign, text_of_sign}
use Rattle.jp_decimal.specs.Laws.{WritesSame}
use Rattle.jp_decimal.specs.NormalForm.{IsHeldAs, IsOutOfRange}
use Rattle.jp_decimal.specs.Number.{IsNormal, scaled_decimal, scaled_of, unscaled}
use Rattle.jp_decimal.specs.NumberText.{number_text, zeros}
use Rattle.jp_decimal.specs.Scaled.{SameNumber, Scaled, from_zero, is_below_zero}
use Rattle.jp_decimal.specs.TextValue.{value_of_text}
use Rattle.jp_decimal.specs.Private.Runs.{IsLong}
use Rattle.jp_decimal.specs.declared.number.Decimal.{Decimal}
use Rattle.jp_decimal.specs.declared.number.Number.{Number as HeldNumber}
use Rattle.jp_decimal.specs.declared.number.Number.TheVariants.{Whole as AsWhole, Decimal as AsDecimal}
use Rattle.jp_decimal.proofs.Moved.{shifted-same}
use Rattle.jp_decimal.proofs.NormalForm.{normal_form-right, one-answer}
use Rattle.jp_decimal.proofs.OneValue.{int-digits, one-value}
use Rattle.jp_decimal.proofs.Order.{from_zero-is}
use Rattle.jp_decimal.proofs.OutOfRange.{long-out-of-range, short-of}
use Rattle.jp_decimal.proofs.ReadBack.{digits-int, int-of, read-back, whole-text, writes-digits}
use Rattle.jp_decimal.proofs.ReadBack.{writes-number}
use Rattle.jp_decimal.proofs.Runs.{after-append, long-digit}
use Rattle.jp_decimal.proofs.Same.{ends-in-zero, same-sizes, same-sym, same-trans}
use Rattle.jp_reading.specs.Characters as char
use Rattle.jp_reading.specs.Forms.{AllPassing, word}
use Rattle.jp_reading.specs.Numbers.{is_digit, is_leading_digit}
use Rattle.jp_reading.specs.Texts.{Text}
use Rattle.jp_tree.specs.declared.tree.Numeral.{Numeral}
use Rattle.jp_tree.specs.declared.tree.Numeral.TheVariants.{Beyond, Fraction}
use Rattle.jp_query.specs.Ints.{Unsigned, negative_int, positive_int, zero_int}
use Rattle.jp_query.specs.Literals.{Decimals, DigitSequence, Exponent, Mantissa, Number, Optional}
use Rattle.jp_query.specs.Literals.{decimal_in, decimals, integer, is_e, is_sign, left_out, minus_zero}
use Rattle.jp_query.specs.Literals.{number, number_in, numeral, signed, unsigned, whole, written}
use Rattle.jp_query.specs.Private.Numerals.{held_integer}
use Rattle.jp_query.specs.Private.Rules.{integer_of, is_some}
use Rattle.jp_query.proofs.Forms.Numbers.{leading-integer}
use Rattle.jp_query.proofs.Readers.Integers.{IsSignedInt, int-value, integer-held}
use Rattle.jp_canon.specs.Canon.{numeral_text}
use Rattle.jp_canon.specs.NumeralText.{fraction_text, integer_text, is_point}
use Rattle.jp_canon.proofs.Forms.{Has, both, has-as, has-each_passing, has-one, has-same, has-word}

-- ---- the texts of JSON numbers are those of numbers in queries

-- a digit
abbrev digit_range : ℕ → Type 0
digit_range c = IsInRange 48 57 c

pub all-passing : (ok : ℕ → Bool) (cs : Text) → list_all ok cs ≡ true → AllPassing ok cs
all-passing ok [] all = tt
all-passing ok (c ∷ cs) all = let parts = and_parts (ok c) (list_all ok cs) all in
    (parts.0, all-passing ok cs parts.1)

-- characters that pass are digits
passing-range : (c : ℕ) → is_digit c ≡ true → IsInRange 48 57 c
unfolding is_digit
passing-range c is = (grind (arith, nat_tests), grind (arith, nat_tests))

figures-of : (ds : Text) → AllPassing is_digit ds → AllDigits 10 ds
figures-of [] all = tt
figures-of (d ∷ ds) all = tells_digits.more d ds (passing-range d all.0) (figures-of ds all.1)

figures : (ds : Text) → list_all is_digit ds ≡ true → AllDigits 10 ds
figures ds all = figures-of ds (all-passing is_digit ds all)

digit-passes : (c : ℕ) → digit_range c → is_digit c ≡ true
unfolding is_digit
digit-passes c range = grind (arith, nat_tests)

digits-pass : (ds : Text) → AllDigits 10 ds → AllPassing is_digit ds
digits-pass [] all = tt
digits-pass (d ∷ ds) all = (digit-passes d (digit_from_value d all.0), digits-pass ds all.1)

has-unsigned : (c : ℕ) (more : Text) → char.digit_one ≤ c → c ≤ char.digit_nine → AllDigits 10 more
    → Has (Unsigned c more) (c ∷ more)
has-unsigned c more low high all =
    both (has-one is_leading_digit c (grind (arith, nat_tests)))
    (has-each_passing is_digit more (digits-pass more all))

has-mantissa : (negative : Bool) (int : Text) → IsInt int
    → Has (Mantissa (integer_of (sign_text negative ++ int))) (sign_text negative ++ int)
has-mantissa false int (inl e) =
    subst (λ w. Has (Mantissa (integer_of w)) w) (sym e)
    (has-as (λ s o h. whole (zero_int refl h)) (has-word (codes "0")))
has-mantissa true int (inl e) =
    subst (λ w. Has (Mantissa (integer_of (char.minus ∷ w))) (char.minus ∷ w)) (sym e)
    (has-as (λ s o. minus_zero refl) (has-word (codes "-0")))
has-mantissa false int (inr h) =
    let lead : is_leading_digit h.0 ≡ true = grind (arith, nat_tests) in
    subst (λ w. Has (Mantissa (integer_of w)) w) (sym h.2)
    (has-as (λ s o k. whole (positive_int h.0 h.1 (leading-integer h.0 h.1 lead) k))
    (has-unsigned h.0 h.1 h.3 h.4 h.5))
has-mantissa true int (inr h) =
    subst (λ w. Has (Mantissa (integer_of (char.minus ∷ w))) (char.minus ∷ w)) (sym h.2)
    (has-as (λ s o k. whole (negative_int h.0 h.1 refl k))
    (both (has-word (codes "-")) (has-unsigned h.0 h.1 h.3 h.4 h.5)))

has-sequence : (d : ℕ) (ds : Text) → AreDigits (d ∷ ds) → Has (DigitSequence d ds) (d ∷ ds)
has-sequence d ds are =
    both (has-one is_digit d (digit-passes d (digit_from_value d are.all.0)))
    (has-each_passing is_digit ds (digits-pass ds are.all.1))

has-decimals : (ds : Text) → AreDigits ds → Has Decimals (char.dot ∷ ds)
has-decimals [] are = absurd (omega (arith, are.some))
has-decimals (d ∷ ds) are =
    has-as (λ s o. decimals d ds) (both (has-word (codes ".")) (has-sequence d ds are))

has-frac : (frac fraction : Text) → IsFrac frac fraction
    → Has (Optional Decimals (is_some frac)) frac
has-frac frac fraction (inl h) =
    subst (λ w. Has (Optional Decimals (is_some w)) w) (sym h.0)
    (has-as (λ s o. left_out refl) (has-word []))
has-frac frac fraction (inr h) =
    subst (λ w. Has (Optional Decimals (is_some w)) w) (sym h.0)
    (has-as (λ s o. written refl) (has-decimals fraction h.1))

has-power : (e : ℕ) (sign : Sign) (ds : Text) → is_e e ≡ true → AreDigits ds
    → Has Exponent (e ∷ (text_of_sign sign ++ ds))
has-power e sign [] is are = absurd (omega (arith, are.some))
has-power e no_sign (d ∷ ds) is are =
    has-as (λ s o. unsigned e d ds) (both (has-one is_e e is) (has-sequence d ds are))
has-power e plus_sign (d ∷ ds) is are =
    has-as (λ s o. signed e char.plus d ds)
    (both (has-one is_e e is) (both (has-one is_sign char.plus refl) (has-sequence d ds are)))
has-power e minus_sign (d ∷ ds) is are =
    has-as (λ s o. signed e char.minus d ds)
    (both (has-one is_e e is) (both (has-one is_sign char.minus refl) (has-sequence d ds are)))

letter-is_e : (e : ℕ) → (e ≡ char.letter_e) ⊎ (e ≡ char.capital_e) → is_e e ≡ true
letter-is_e e (inl h) = rw h refl
letter-is_e e (inr h) = rw h refl

-- what begins an exponent is such a point
e-any : (e : ℕ) (more : Text) → (e ≡ char.letter_e) ⊎ (e ≡ char.capital_e)
    → list_any is_point (e ∷ more) ≡ true
e-any e more (inl h) = rw h refl
e-any e more (inr h) = rw h refl

has-exp : (exp : Text) (power : ℤ) → ((exp ≡ []) × (power ≡ pos 0)) ⊎ IsExp exp power
    → Has (Optional Exponent (is_some exp)) exp
has-exp exp power (inl h) =
    subst (λ w. Has (Optional Exponent (is_some w)) w) (sym h.0)
    (has-as (λ s o. left_out refl) (has-word []))
has-exp exp power (inr h) =
    subst (λ w. Has (Optional Exponent (is_some w)) w) (sym h.is)
    (has-as (λ s o. written refl) (has-power h.e h.sign h.digits (letter-is_e h.e h.is_e) h.are_digits))

writes-has : (t : Text) (x : Scaled) (w : Writes t x)
    → Has (Number (numeral (integer_of (sign_text w.negative ++ w.int)) (is_some w.frac) (is_some w.exp)
    (number_in t))) t
writes-has t x w =
    let all : (sign_text w.negative ++ w.int) ++ (w.frac ++ w.exp) ≡ t =
    append_assoc (sign_text w.negative) w.int (w.frac ++ w.exp) ∙ sym w.is in
    has-as
    (λ s o. number (integer_of (sign_text w.negative ++ w.int)) (is_some w.frac) (is_some w.exp) refl)
    (has-same all
    (both (has-mantissa w.negative w.int w.is_int)
    (both (has-frac w.frac w.fraction w.is_frac) (has-exp w.exp w.power w.is_exp))))

-- what a text writes is held as that number
held-in : (t : Text) (x : Scaled) (n : HeldNumber) → Writes t x → IsNormal n
    → SameNumber x (scaled_of n)
    → number_in t ≡ Some n
held-in t x n w normal same =
    one-answer (value_of_text t) (number_in t) (Some n) (normal_form-right (value_of_text t))
    (record {
      normal = normal;
      same = same-sym (value_of_text t) (scaled_of n)
          (subst (λ y. SameNumber y (scaled_of n)) (sym (one-value t x w)) same);
    })

-- ---- a point and a zero behind a whole number

pointed-writes : (a : Text) (h : IsSignedInt a)
    → Writes (a ++ codes ".0")
    (record {
      coefficient = with_sign h.negative (digits_value 10 (h.digits ++ codes "0"));
      exponent = negsuc 0;
    })
pointed-writes a h = record {
  negative = h.negative;
  int = h.digits;
  frac = codes ".0";
  fraction = codes "0";
  exp = [];
  power = pos 0;
  is = ap (λ w. w ++ codes ".0") h.is ∙ append_assoc (sign_text h.negative) h.digits (codes ".0");
  is_int = h.is_int;
  is_frac = inr (refl, record { some = lit< tt; all = (lit< tt, tt) });
  is_exp = inl (refl, refl);
  coefficient = refl;
  exponent = refl;
}

pointed-same : (a : Text) (h : IsSignedInt a)
    → SameNumber (unscaled (with_sign h.negative (digits_value 10 h.digits)))
    (record {
      coefficient = with_sign h.negative (digits_value 10 (h.digits ++ codes "0"));
      exponent = negsuc 0;
    })
pointed-same a h =
    shifted-same h.negative (digits_value 10 h.digits) 1 (digits_value 10 (h.digits ++ codes "0"))
    (negsuc 0) (pos 0) (omega (arith, after-append 0 h.digits (codes "0"))) refl

has-pointed : (a : Text) (h : IsSignedInt a) (n : HeldNumber) → IsNormal n
    → SameNumber (value_of_text a) (scaled_of n)
    → Has (Number (Fraction (Some n))) (a ++ codes ".0")
unfolding pointed-writes
has-pointed a h n normal same =
    let x : Scaled = record {
      coefficient = with_sign h.negative (digits_value 10 (h.digits ++ codes "0"));
      exponent = negsuc 0;
    } in
    let z : Scaled = unscaled (with_sign h.negative (digits_value 10 h.digits)) in
    let read : SameNumber z (scaled_of n) =
    subst (λ y. SameNumber y (scaled_of n)) (int-value a h) same in
    let held : number_in (a ++ codes ".0") ≡ Some n =
    held-in (a ++ codes ".0") x n (pointed-writes a h) normal
    (same-trans x z (scaled_of n) (same-sym z x (pointed-same a h)) read) in
    subst (λ m. Has (Number (Fraction m)) (a ++ codes ".0")) held
    (writes-has (a ++ codes ".0") x (pointed-writes a h))

-- ---- points in a text

any-later : (xs ys : Text) → list_any is_point ys ≡ true → list_any is_point (xs ++ ys) ≡ true
any-later [] ys is = is
any-later (x ∷ xs) ys is = decided (is_point x) (any-later xs ys is)
  where
    decided : (b : Bool) → list_any is_point (xs ++ ys) ≡ true
        → (b || list_any is_point (xs ++ ys)) ≡ true
    decided true rest = refl
    decided false rest = rest

digit-no_point : (c : ℕ) → digit_range c → is_point c ≡ false
digit-no_point c range = grind (arith, nat_tests)

digits-no_point : (ds : Text) → AllDigits 10 ds → list_any is_point ds ≡ false
digits-no_point [] all = refl
digits-no_point (d ∷ ds) all =
    rw (digit-no_point d (digit_from_value d all.0)) (digits-no_point ds all.1)

int-no_point : (a : Text) → IsSignedInt a → list_any is_point a ≡ false
int-no_point a h = ap (list_any is_point) h.is ∙ signed_no h.negative
  where
    signed_no : (negative : Bool) → list_any is_point (sign_text negative ++ h.digits) ≡ false
    signed_no true = digits-no_point h.digits (int-digits h.digits h.is_int).all
    signed_no false = digits-no_point h.digits (int-digits h.digits h.is_int).all

-- ---- numbers that were written with a fraction or an exponent

no-fraction : number_in (codes "1e-1000001") ≡ None
unfolding scan_numeral
no-fraction = refl

has-no_fraction : Has (Number (Fraction None)) (codes "1e-1000001")
unfolding is_digit
has-no_fraction =
    has-as (λ s o. number (integer_of (codes "1")) false true (ap Fraction (sym no-fraction)))
    (both (has-mantissa false (codes "1") (inr (49, [], refl, omega arith, omega arith, tt)))
    (both {P = Optional Decimals false} (has-as (λ s o. left_out refl) (has-word []))
    (has-as {P = Exponent} (λ s o. written refl)
    (has-power char.letter_e minus_sign (codes "1000001") refl
    (record { some = lit< tt; all = figures (codes "1000001") refl })))))

-- the text of a decimal, with `.0` where it has neither a point nor an exponent
has-decimal_text : (d : Decimal) → IsNormal (AsDecimal d)
    → Has (Number (Fraction (Some (AsDecimal d)))) (fraction_text (AsDecimal d))
has-decimal_text d normal = by-parts w.is_frac w.is_exp
  where
    n : HeldNumber
    n = AsDecimal d

    t : Text
    t = number_text n

    found : WritesSame t (scaled_of n)
    found = writes-number n normal

    w : Writes t found.value
    w = found.writes

    Goal : Bool → Type 0
    Goal pointed = Has (Number (Fraction (Some n))) (t ++ (cond pointed [] (codes ".0")))

    -- with a point, the text as it is
    with-point : (is_some w.frac || is_some w.exp) ≡ true → list_any is_point t ≡ true
        → Goal (list_any is_point t)
    with-point some pointed =
        let held : number_in t ≡ Some n = held-in t found.value n w normal found.same in
        let y = integer_of (sign_text w.negative ++ w.int) in
        let is : numeral y (is_some w.frac) (is_some w.exp) (number_in t) ≡ Fraction (Some n) =
        ap (λ b. cond b (Fraction (number_in t)) (integer y (number_in t))) some ∙ ap Fraction held in
        subst Goal (sym pointed)
        (has-same (sym (append-nil t))
        (subst (λ i. Has (Number i) t) is (writes-has t found.value w)))

    behind : (more : Text) → list_any is_point (w.frac ++ w.exp) ≡ true → list_any is_point t ≡ true
    behind more is =
        ap (list_any is_point) w.is
        ∙ any-later (sign_text w.negative) (w.int ++ (w.frac ++ w.exp))
        (any-later w.int (w.frac ++ w.exp) is)

    by-parts : IsFrac w.frac w.fraction
        → (((w.exp ≡ []) × (w.power ≡ pos 0)) ⊎ IsExp w.exp w.power)
        → Goal (list_any is_point t)
    by-parts (inr h) tail =
        with-point (ap (λ u. is_some u || is_some w.exp) h.0)
        (behind [] (ap (λ u. list_any is_point (u ++ w.exp)) h.0))
    by-parts (inl h) (inr k) =
        let point : list_any is_point w.exp ≡ true =
        ap (list_any is_point) k.is ∙ e-any k.e (text_of_sign k.sign ++ k.digits) k.is_e in
        with-point (ap (λ u. is_some u || is_some w.exp) h.0 ∙ ap is_some k.is)
        (behind [] (any-later w.frac w.exp point))
    by-parts (inl h) (inl k) =
        let is : t ≡ sign_text w.negative ++ w.int =
        w.is ∙ (λ i. sign_text w.negative ++ (w.int ++ (h.0 i ++ k.0 i)))
        ∙ ap (λ u. sign_text w.negative ++ u) (append-nil w.int) in
        let plain : IsSignedInt t =
        record { negative = w.negative; digits = w.int; is_int = w.is_int; is = is } in
        subst Goal (sym (int-no_point t plain)) (has-pointed t plain n normal (read-back n normal))

has-fraction : (n : HeldNumber) → IsNormal n → Has (Number (Fraction (Some n))) (fraction_text n)
has-fraction (AsDecimal d) normal = has-decimal_text d normal
has-fraction (AsWhole z) normal =
    let short : unsigned_abs z < 10 ^ 64 = omega (arith, short-of (AsWhole z) normal) in
    has-pointed (signed_decimal z)
    (record {
      negative = is_below_zero z;
      digits = decimal (unsigned_abs z);
      is_int = int-of (unsigned_abs z) short;
      is = sym (whole-text z);
    })
    (AsWhole z) normal (read-back (AsWhole z) normal)

pub has-fraction_in : (t : Text)
    → Has (Number (Fraction (number_in t))) (numeral_text (Fraction (number_in t)))
has-fraction_in t = each (number_in t) (normal_form-right (value_of_text t))
  where
    each : (o : Option HeldNumber)
        → MatchOption o (IsOutOfRange (value_of_text t)) (IsHeldAs (value_of_text t))
        → Has (Number (Fraction o)) (numeral_text (Fraction o))
    each None out = has-no_fraction
    each (Some n) held = has-fraction n held.normal

-- ---- whole numbers beyond 64 bits

-- 39 digits 1
abbrev many_ones : Text
many_ones = codes "111111111111111111111111111111111111111"

ones-int : IsInt many_ones
unfolding is_digit
ones-int =
    let more : Text = codes "11111111111111111111111111111111111111" in
    inr (49, more, refl, omega arith, omega arith, figures more refl)

-- a whole number as it is held
has-whole : (negative : Bool) (ds : Text) → IsInt ds → (i : Numeral)
    → i ≡ held_integer (number_in (sign_text negative ++ ds))
    → Has (Number i) (sign_text negative ++ ds)
has-whole negative ds int i held =
    let t : Text = sign_text negative ++ ds in
    let is : i ≡ integer (integer_of t) (number_in t) =
    held
    ∙ sym (integer-held t (record { negative = negative; digits = ds; is_int = int; is = refl })) in
    has-as (λ s o. number (integer_of t) false false is)
    (has-same (append-nil t)
    (both (has-mantissa negative ds int)
    (both {P = Optional Decimals false} (has-as (λ s o. left_out refl) (has-word []))
    (has-as {P = word []} {Q = Optional Exponent false} (λ s o. left_out refl) (has-word [])))))

-- one of more digits than can be held
long-none : (t : Text) → IsInt t → IsLong (digits_value 10 t) → number_in t ≡ None
long-none t int long =
    let plain : IsSignedInt t =
    record { negative = false; digits = t; is_int = int; is = refl } in
    one-answer (value_of_text t) (number_in t) None (normal_form-right (value_of_text t))
    (subst IsOutOfRange (sym (int-value t plain))
    (long-out-of-range false (digits_value 10 t) (pos 0) long))

has-long : (t : Text) → IsInt t → IsLong (digits_value 10 t) → Has (Number (Beyond None)) t
has-long t int long =
    has-whole false t int (Beyond None) (ap held_integer (sym (long-none t int long)))

ones-long : IsLong (digits_value 10 many_ones)
ones-long =
    long-digit 11111111111111111111111111111111111111 1 (omega arith) (λ e. omega (arith, e)) (omega arith)

has-no_integer : Has (Number (Beyond None)) many_ones
has-no_integer = has-long many_ones ones-int ones-long

-- a decimal that does not end in 0 and is a whole number has no exponent below 0
whole-exponent : (c e z : ℤ) → unsigned_abs c % 10 ≢ 0
    → SameNumber (record { coefficient = c; exponent = e }) (unscaled z)
    → (k : ℕ) × (e ≡ pos k)
whole-exponent c (pos k) z ends same = (k, refl)
whole-exponent c (negsuc n) z ends same =
    let i : from_zero (negsuc n -ℤ pos 0) ≡ 0 =
    omega (arith, ints, from_zero-is (negsuc n -ℤ pos 0)) in
    let j : from_zero (pos 0 -ℤ negsuc n) ≡ suc n =
    omega (arith, ints, from_zero-is (pos 0 -ℤ negsuc n)) in
    let sizes = same-sizes (record { coefficient = c; exponent = negsuc n }) (unscaled z) same in
    let equal : unsigned_abs c * 10 ^ 0 ≡ unsigned_abs z * 10 ^ suc n =
    ap (λ k. unsigned_abs c * 10 ^ k) (sym i) ∙ sizes ∙ ap (λ k. unsigned_abs z * 10 ^ k) j in
    let zero_end : (unsigned_abs z * 10 ^ suc n) % 10 ≡ 0 =
    ends-in-zero (unsigned_abs z) (suc n) (omega arith) in
    absurd (ends (omega (arith, equal, zero_end)))

has-integer : (d : Decimal) (k : ℕ) → IsNormal (AsDecimal d) → d.exponent ≡ pos k
    → Has (Number (Beyond (Some d))) (integer_text d)
has-integer d k normal at =
    let negative : Bool = is_below_zero d.coefficient in
    let size : ℕ = unsigned_abs d.coefficient in
    let short : size < 10 ^ 64 = omega (arith, normal.short) in
    let above : 0 < size = omega (arith, normal.ends) in
    let ds : Text = decimal size ++ zeros k in
    let t : Text = sign_text negative ++ ds in
    let int : IsInt ds = digits-int size k short above in
    let found : WritesSame t (scaled_of (AsDecimal d)) = writes-digits d k normal at in
    let held : number_in t ≡ Some (AsDecimal d) =
    held-in t found.value (AsDecimal d) found.writes normal found.same in
    let all : t ≡ integer_text d =
    ap (λ e. sign_text negative ++ (decimal size ++ zeros (from_zero e))) (sym at) in
    has-same all (has-whole negative ds int (Beyond (Some d)) (ap held_integer (sym held)))

pub has-decimal_in : (t : Text) → IsSignedInt t
    → Has (Number (Beyond (decimal_in (number_in t)))) (numeral_text (Beyond (decimal_in (number_in t))))
has-decimal_in t h = each (number_in t) (normal_form-right (value_of_text t))
  where
    z : ℤ
    z = with_sign h.negative (digits_value 10 h.digits)

    each : (o : Option HeldNumber)
        → MatchOption o (IsOutOfRange (value_of_text t)) (IsHeldAs (value_of_text t))
        → Has (Number (Beyond (decimal_in o))) (numeral_text (Beyond (decimal_in o)))
    each None out = has-no_integer
    each (Some (AsWhole y)) held = has-no_integer
    each (Some (AsDecimal d)) held =
        let same : SameNumber (scaled_decimal d) (unscaled z) =
        subst (λ x. SameNumber (scaled_decimal d) x) (int-value t h) held.same in
        let k = whole-exponent d.coefficient d.exponent z held.normal.ends same in
        has-integer d k.0 held.normal k.1
