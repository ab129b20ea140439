-- Whole numbers without a fraction and an exponent: what their digits write is what their text does.
use Rattle.std.proofs.Common.{◌≡◌, ℕ, zero, suc, ◌+◌, ◌^◌, ◌<◌, ◌≤◌, ◌==◌, Bool, true, false}
use Rattle.std.proofs.Common.{[], ◌∷◌, ◌++◌, Option, Some, None, MatchOption, inl, inr, refl, sym, ap}
use Rattle.std.proofs.Common.{subst, ◌∙◌, arith, append-nil, length-append, length, cond, nat_lt}
use Rattle.std.proofs.Common.{nat_le}
use Rattle.std.specs.Prelude.{ℤ, pos, negsuc, neg_ℤ}
use Rattle.std.specs.Fmt.{sign_text}
use Rattle.std.specs.Int.{IsInRange}
use Rattle.std.specs.Prelude.{codes}
use Rattle.std.specs.Str.Parse.{AllDigits, digits_value}
use Rattle.std.proofs.lemmas.Bool.Decides.{nat_tests}
use Rattle.std.proofs.lemmas.Str.Parse.{FoldsDigits, numerals_by_fold, tells_digits}
use Rattle.fast_float.specs.Text.{with_sign}
use Rattle.jp_decimal.specs.Grammar.{IsInt}
use Rattle.jp_decimal.specs.NormalForm.{IsHeldAs, IsOutOfRange, normal_form}
use Rattle.jp_decimal.specs.Number.{is_in_64_bits, unscaled}
use Rattle.jp_decimal.specs.TextValue.{value_of_text}
use Rattle.jp_decimal.specs.declared.number.Number.{Number as HeldNumber}
use Rattle.jp_decimal.specs.declared.number.Number.TheVariants.{Whole as AsWhole, Decimal as AsDecimal}
use Rattle.jp_decimal.proofs.NormalForm.{normal_form-right}
use Rattle.jp_decimal.proofs.OneValue.{int-digits, one-value}
use Rattle.jp_decimal.proofs.Same.{same-itself, times-one}
use Rattle.jp_decimal.proofs.Unique.{kinds-apart}
use Rattle.jp_reading.specs.Characters as char
use Rattle.jp_reading.specs.Forms.{Each, One}
use Rattle.jp_reading.specs.Numbers.{is_digit, is_leading_digit, value_from}
use Rattle.jp_reading.specs.Outcome.{State, Outcome, took, stuck, deep, ◌>>=◌}
use Rattle.jp_reading.specs.RuleReading.{nothing}
use Rattle.jp_reading.specs.Texts.{Spans, Text, bytes}
use Rattle.jp_reading.proofs.Rules.Form.{form, none_inside}
use Rattle.jp_reading.proofs.Rules.Soundness.{Promised, shut, sound}
use Rattle.jp_reading.specs.Views.{Fails, outcome_map}
use Rattle.jp_reading.specs.declared.reader.Stop.{Stop}
use Rattle.jp_reading.specs.declared.reader.Stop.TheVariants.{Memory, Syntax, TooDeep}
use Rattle.jp_reading.proofs.States.Between.{Reads}
use Rattle.jp_reading.proofs.States.Folds.{fails-then}
use Rattle.jp_tree.specs.declared.tree.Numeral.{Numeral}
use Rattle.jp_tree.specs.declared.tree.Numeral.TheVariants.{Whole, Beyond, Fraction}
use Rattle.jp_query.specs.Ints.{Unsigned, negative_int, negative_of, positive_int, whole_of, zero_int}
use Rattle.jp_query.specs.Literals.{Mantissa, decimal_in, integer, minus_zero, number_in, whole}
use Rattle.jp_query.specs.Private.Numerals.{held_integer}
use Rattle.jp_query.specs.Private.Reading.{read_flat}
use Rattle.jp_query.specs.Private.Rules.{decimals, exponent, integer_of, mantissa, nesting, number}
use Rattle.jp_query.specs.Private.Rules.{numeral_of}
use Rattle.jp_query.proofs.Forms.Numbers.{joined-text, mantissa-same, unsigned-text, word-text}
use Rattle.jp_query.proofs.Rules.Conditions.{mantissa-alive}

-- a whole number with a sign or none
pub record IsSignedInt (a : Text) : Type 0 where
  pub negative : Bool
  pub digits : Text
  pub is_int : IsInt digits
  pub is : a ≡ sign_text negative ++ digits

-- the number that digits write, in the words of either crate
folds-value : FoldsDigits value_from
folds-value = record { empty = λ n. refl; more = λ n c cs is. refl }

pub value-is : (ds : Text) → AllDigits 10 ds → value_from 0 ds ≡ digits_value 10 ds
value-is ds all = (numerals_by_fold (AllDigits 10) tells_digits value_from folds-value).same ds all

-- the number that its text writes
pub int-value : (a : Text) (h : IsSignedInt a)
    → value_of_text a ≡ unscaled (with_sign h.negative (digits_value 10 h.digits))
int-value a h =
    one-value a (unscaled (with_sign h.negative (digits_value 10 h.digits)))
    (record {
      negative = h.negative;
      int = h.digits;
      frac = [];
      fraction = [];
      exp = [];
      power = pos 0;
      is = h.is ∙ ap (λ w. sign_text h.negative ++ w) (sym (append-nil h.digits));
      is_int = h.is_int;
      is_frac = inl (refl, refl);
      is_exp = inl (refl, refl);
      coefficient = ap (λ w. with_sign h.negative (digits_value 10 w)) (sym (append-nil h.digits));
      exponent = refl;
    })

-- the whole number z as it is held, or the decimal
abbrev held_as : ℤ → Option HeldNumber → Numeral
held_as z n = cond (is_in_64_bits z) (Whole z) (Beyond (decimal_in n))

held-unscaled : (z : ℤ) (n : Option HeldNumber)
    → MatchOption n (IsOutOfRange (unscaled z)) (IsHeldAs (unscaled z))
    → held_integer n ≡ held_as z n
held-unscaled z n h = decided (is_in_64_bits z) refl n h
  where
    decided : (b : Bool) → is_in_64_bits z ≡ b → (n : Option HeldNumber)
        → MatchOption n (IsOutOfRange (unscaled z)) (IsHeldAs (unscaled z))
        → held_integer n ≡ cond b (Whole z) (Beyond (decimal_in n))
    decided true fits None out = absurd (out (AsWhole z) fits (same-itself (unscaled z)))
    decided true fits (Some (AsWhole y)) held =
        ap Whole (sym (times-one y) ∙ held.same ∙ times-one z)
    decided true fits (Some (AsDecimal d)) held =
        absurd (kinds-apart z d fits held.normal (same-back held.same))
      where
        same-back : {A : Type 0} {x y : A} → x ≡ y → y ≡ x
        same-back e = sym e
    decided false large None out = refl
    decided false large (Some (AsWhole y)) held =
        let same : y ≡ z = sym (times-one y) ∙ held.same ∙ times-one z in
        let fits : is_in_64_bits z ≡ true = ap is_in_64_bits (sym same) ∙ held.normal in
        absurd (cc)
    decided false large (Some (AsDecimal d)) held = refl

-- an integer by its size, and as it is held
integer-whole : (v : ℕ) (n : Option HeldNumber) → integer (whole_of v) n ≡ held_as (pos v) n
integer-whole v n = decided (nat_lt v (2 ^ 64))
  where
    decided : (b : Bool)
        → integer (cond b (Whole (pos v)) (Beyond None)) n ≡ cond b (Whole (pos v)) (Beyond (decimal_in n))
    decided true = refl
    decided false = refl

integer-negative : (v : ℕ) (n : Option HeldNumber)
    → integer (negative_of v) n ≡ held_as (neg_ℤ (pos v)) n
integer-negative zero n = refl
integer-negative (suc m) n = decided (nat_le (suc m) (2 ^ 63)) (nat_lt m (2 ^ 63)) (grind (arith, nat_tests))
  where
    decided : (b c : Bool) → b ≡ c
        → integer (cond b (Whole (negsuc m)) (Beyond None)) n
        ≡ cond c (Whole (negsuc m)) (Beyond (decimal_in n))
    decided true true e = refl
    decided false false e = refl
    decided true false e = absurd (cc)
    decided false true e = absurd (cc)

-- the integer that a sign and digits write
signed-integer : (negative : Bool) (ds : Text) → IsInt ds → (n : Option HeldNumber)
    → integer (integer_of (sign_text negative ++ ds)) n ≡ held_as (with_sign negative (value_from 0 ds)) n
signed-integer true ds is n = integer-negative (value_from 0 ds) n
signed-integer false ds (inl e) n = rw e (integer-whole 0 n)
signed-integer false ds (inr h) n =
    let other : (h.0 == char.minus) ≡ false = grind (arith, nat_tests) in
    rw h.2 (rw other (integer-whole (value_from 0 (h.0 ∷ h.1)) n))

-- what is held of its text is the integer that its digits write
pub integer-held : (a : Text) → IsSignedInt a
    → integer (integer_of a) (number_in a) ≡ held_integer (number_in a)
integer-held a h =
    let z : ℤ = with_sign h.negative (digits_value 10 h.digits) in
    let same = value-is h.digits (int-digits h.digits h.is_int).all in
    let held : held_integer (number_in a) ≡ held_as z (number_in a) =
    subst (λ x. held_integer (normal_form x) ≡ held_as z (normal_form x)) (sym (int-value a h))
    (held-unscaled z (normal_form (unscaled z)) (normal_form-right (unscaled z))) in
    ap (λ w. integer (integer_of w) (number_in a)) h.is
    ∙ signed-integer h.negative h.digits h.is_int (number_in a)
    ∙ ap (λ v. held_as (with_sign h.negative v) (number_in a)) same
    ∙ sym held

-- ---- what the grammar takes for one

leading-range : (c : ℕ) → is_leading_digit c ≡ true → (char.digit_one ≤ c) × (c ≤ char.digit_nine)
leading-range c is = (grind (arith, nat_tests), grind (arith, nat_tests))

digit-range : (c : ℕ) → is_digit c ≡ true → IsInRange 48 57 c
unfolding is_digit
digit-range c is = (grind (arith, nat_tests), grind (arith, nat_tests))

each-digits : (cs : Text) (s : Spans) (o : ℕ) (t : Text) → Each (One is_digit) cs s o t → AllDigits 10 cs
each-digits [] s o t h = tt
each-digits (c ∷ cs) s o t h =
    tells_digits.more c cs (digit-range c h.one.passes)
    (each-digits cs h.second_spans (o + bytes h.first) h.second h.two)

unsigned-int : (c : ℕ) (more : Text) (s : Spans) (o : ℕ) (t : Text) → Unsigned c more s o t
    → IsInt (c ∷ more)
unsigned-int c more s o t h =
    let range = leading-range c h.one.passes in
    inr (
      c,
      more,
      refl,
      range.0,
      range.1,
      each-digits more h.second_spans (o + bytes h.first) h.second h.two,
    )

pub signed-int : (y : Numeral) (s : Spans) (o : ℕ) (t : Text) → Mantissa y s o t → IsSignedInt t
signed-int y s o t (minus_zero e h) =
    record { negative = true; digits = char.digit_zero ∷ []; is_int = inl refl; is = h.is }
signed-int y s o t (whole (zero_int e h)) =
    record { negative = false; digits = char.digit_zero ∷ []; is_int = inl refl; is = h.is }
signed-int y s o t (whole (positive_int c more e h)) = record {
  negative = false;
  digits = c ∷ more;
  is_int = unsigned-int c more s o t h;
  is = unsigned-text c more s o t h;
}
signed-int y s o t (whole (negative_int c more e h)) = record {
  negative = true;
  digits = c ∷ more;
  is_int = unsigned-int c more h.second_spans (o + bytes h.first) h.second h.two;
  is = joined-text (word-text (codes "-")) (unsigned-text c more) s o t h;
}

-- what the rule takes
pub mantissa-took : (p q : State) (a : Text) → read_flat mantissa p ≡ took a q → IsSignedInt a
mantissa-took p q a e =
    let F = none_inside nesting in
    let sound_here = sound F F (λ o x s n t h. h) (nothing nesting) (λ o r on. shut refl) mantissa
    mantissa-alive p in
    let reads : Reads (form F mantissa a) p q =
    subst (λ o. Promised (form F mantissa) (form F mantissa) p o) e sound_here.is in
    let is = (mantissa-same F a).to reads.spans p.at reads.text reads.is in
    subst IsSignedInt is.text (signed-int (integer_of a) reads.spans p.at reads.text is.is)

-- ---- a number, part by part

-- what is read after the whole number a, and after its fraction b
abbrev after_decimals : Text → Text → State → Outcome Numeral
after_decimals a b r = outcome_map (numeral_of a b) (read_flat exponent r)

abbrev after_mantissa : Text → State → Outcome Numeral
after_mantissa a q = read_flat decimals q >>= after_decimals a

number-is : (p : State) → read_flat number p ≡ (read_flat mantissa p >>= after_mantissa)
unfolding number
number-is p = refl

-- where it stops
fails-unmapped : {A B : Type 0} (e : Stop) (f : A → B) (o : Outcome A) → Fails e (outcome_map f o)
    → Fails e o
fails-unmapped Memory f o h = tt
fails-unmapped (Syntax n) f (took x p) h = h
fails-unmapped (Syntax n) f (stuck p) h = h
fails-unmapped (Syntax n) f (deep p) h = h
fails-unmapped (TooDeep n) f (took x p) h = h
fails-unmapped (TooDeep n) f (stuck p) h = h
fails-unmapped (TooDeep n) f (deep p) h = h

pub whole-fails : {B : Type 0} (p : State) (e : Stop) (f : Text → B)
    → Fails e (outcome_map f (read_flat mantissa p)) → Fails e (read_flat number p)
whole-fails p e f h =
    rw (number-is p)
    (fails-then e (read_flat mantissa p) after_mantissa (fails-unmapped e f (read_flat mantissa p) h))

pub decimals-fail : {B : Type 0} (p q : State) (a : Text) (e : Stop) (f : Text → B)
    → read_flat mantissa p ≡ took a q
    → Fails e (outcome_map f (read_flat decimals q)) → Fails e (read_flat number p)
decimals-fail p q a e f first h =
    rw (number-is p, first)
    (fails-then e (read_flat decimals q) (after_decimals a)
    (fails-unmapped e f (read_flat decimals q) h))

pub exponent-fails : {B : Type 0} (p q r : State) (a b : Text) (e : Stop) (f : Text → B)
    → read_flat mantissa p ≡ took a q → read_flat decimals q ≡ took b r
    → Fails e (outcome_map f (read_flat exponent r)) → Fails e (read_flat number p)
exponent-fails p q r a b e f first second h =
    rw (number-is p, first, second)
    (fails-then e (read_flat exponent r) (λ c u. took (numeral_of a b c) u)
    (fails-unmapped e f (read_flat exponent r) h))

-- what it takes
pub number-took : (p q r u : State) (a b c : Text) → read_flat mantissa p ≡ took a q
    → read_flat decimals q ≡ took b r → read_flat exponent r ≡ took c u
    → read_flat number p ≡ took (numeral_of a b c) u
number-took p q r u a b c first second third = rw (number-is p, first, second, third) refl

-- what the rule took, where a value made of it is known
pub record Taken {B : Type 0} (f : Text → B) (o : Outcome Text) (y : B) (q : State) : Type 0 where
  pub text : Text
  pub took_it : o ≡ took text q
  pub value : f text ≡ y

pub taken : {B : Type 0} (f : Text → B) (o : Outcome Text) (y : B) (q : State)
    → outcome_map f o ≡ took y q → Taken f o y q
taken f (took x r) y q e =
    let state : r ≡ q = cc in
    record { text = x; took_it = ap (λ u. took x u) state; value = cc }
taken f (stuck r) y q e = absurd (cc)
taken f (deep r) y q e = absurd (cc)

-- which kind it is, by the lengths
pub fraction-written : (a b c v : Text) → v ≡ a ++ (b ++ c) → length a < length v
    → numeral_of a b c ≡ Fraction (number_in v)
fraction-written a [] [] v e longer =
    absurd (omega (arith, ap length e, length-append a []))
fraction-written a [] (x ∷ c) v e longer = ap (λ w. Fraction (number_in w)) (sym e)
fraction-written a (x ∷ b) c v e longer = ap (λ w. Fraction (number_in w)) (sym e)

pub integer-written : (a b c v : Text) → v ≡ a ++ (b ++ c) → length v ≤ length a → IsSignedInt a
    → numeral_of a b c ≡ held_integer (number_in v)
integer-written a [] [] v e short is =
    let all : v ≡ a = e ∙ append-nil a in
    ap (λ w. integer (integer_of a) (number_in w)) (sym e ∙ all) ∙ integer-held a is
    ∙ ap (λ w. held_integer (number_in w)) (sym all)
integer-written a [] (x ∷ c) v e short is =
    absurd (omega (arith, ap length e, length-append a (x ∷ c)))
integer-written a (x ∷ b) c v e short is =
    absurd (omega (arith, ap length e, length-append a (x ∷ (b ++ c))))
