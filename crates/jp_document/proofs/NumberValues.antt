-- The value of a number, by the form that it is held in: for tables of exact numbers.
use Rattle.std.proofs.Common.{◌≡◌, ◌==◌, ◌^◌, ℕ, ℤ, pos, negsuc, ◌+ℤ◌, ◌*ℤ◌, Bool, true, false, Option, Some}
use Rattle.std.proofs.Common.{None, if◌then◌else◌, refl, sym, ap, subst, ◌∙◌, unsigned_abs}
use Rattle.std.specs.Option.{MatchOption}
use Rattle.std.proofs.lemmas.Bool.{false≢true}
use Rattle.std.proofs.lemmas.Option.{none-some, same_Some}
use Rattle.fast_float.specs.Text.{with_sign}
use Rattle.jp_decimal.specs.NormalForm.{IsHeldAs, IsOutOfRange, normal_form, normal_number}
use Rattle.jp_decimal.specs.NormalForm.{without_zeros}
use Rattle.jp_decimal.specs.NumberText.{number_text}
use Rattle.jp_decimal.specs.Number.{IsNormal, is_decimal, is_in_64_bits, is_whole_64, scaled_decimal}
use Rattle.jp_decimal.specs.Number.{scaled_of, unscaled}
use Rattle.jp_decimal.specs.Scaled.{Scaled, from_zero, is_below_zero}
use Rattle.jp_decimal.specs.TextValue.{value_of_text}
use Rattle.jp_decimal.specs.declared.number.Number.{Number}
use Rattle.jp_decimal.specs.declared.number.Number.TheVariants.{Whole, Decimal}
use Rattle.jp_decimal.proofs.NormalForm.{normal_form-right}
use Rattle.jp_decimal.proofs.ReadBack.{read-back}
use Rattle.jp_decimal.proofs.Same.{same-itself, same-sym, same-trans}
use Rattle.jp_decimal.proofs.Told.{decimal-told}
use Rattle.jp_decimal.proofs.Unique.{one-normal}
use Rattle.jp_document.specs.NumberValue.{number_value, value_of_digits}
use Rattle.jp_document.specs.Value.{Value, decimal, everywhere, is_allowed, whole}

-- the digits of a number without zeros at their end, and its exponent with them
abbrev digits_in : Scaled → ℕ × ℕ
digits_in x = without_zeros (unsigned_abs x.coefficient) (unsigned_abs x.coefficient) 0

abbrev coefficient_in : Scaled → ℤ
coefficient_in x = with_sign (is_below_zero x.coefficient) (digits_in x).0

abbrev exponent_in : Scaled → ℤ
exponent_in x = x.exponent +ℤ pos (digits_in x).1

-- the value of a number that is held
abbrev pub held_value : Number → Value
held_value (Whole z) = whole z
held_value (Decimal d) = decimal d.coefficient d.exponent

digits-held : (c e : ℤ) (n : Number) → normal_number c e ≡ Some n → value_of_digits c e ≡ held_value n
digits-held c e n is = by (is_whole_64 c e) (is_decimal c e) is
  where
    by : (b d : Bool)
        → (if b then Some (Whole (c *ℤ pos (10 ^ from_zero e)))
        else (if d then Some (Decimal (record { coefficient = c; exponent = e })) else None)) ≡ Some n
        → (if b then whole (c *ℤ pos (10 ^ from_zero e)) else decimal c e) ≡ held_value n
    by true d is = ap held_value (same_Some _ n is)
    by false true is = ap held_value (same_Some _ n is)
    by false false is = absurd (none-some n is)

-- the value of a number that can be held is that of its form
pub value-held : (x : Scaled) (n : Number) → normal_form x ≡ Some n → number_value x ≡ held_value n
value-held x n is =
    by (unsigned_abs x.coefficient == 0) (normal_number (coefficient_in x) (exponent_in x))
    (value_of_digits (coefficient_in x) (exponent_in x))
    (digits-held (coefficient_in x) (exponent_in x) n) is
  where
    by : (b : Bool) (o : Option Number) (v : Value) → (o ≡ Some n → v ≡ held_value n)
        → (if b then Some (Whole (pos 0)) else o) ≡ Some n
        → (if b then whole (pos 0) else v) ≡ held_value n
    by true o v so is = ap held_value (same_Some _ n is)
    by false o v so is = so is

digits-unheld : (c e : ℤ) → normal_number c e ≡ None
    → everywhere is_allowed (value_of_digits c e) ≡ false
digits-unheld c e is = by (is_whole_64 c e) (is_decimal c e) refl is
  where
    by : (b d : Bool) → is_decimal c e ≡ d
        → (if b then Some (Whole (c *ℤ pos (10 ^ from_zero e)))
        else (if d then Some (Decimal (record { coefficient = c; exponent = e })) else None)) ≡ None
        → everywhere is_allowed (if b then whole (c *ℤ pos (10 ^ from_zero e)) else decimal c e) ≡ false
    by true d so is = absurd (none-some _ (sym is))
    by false true so is = absurd (none-some _ (sym is))
    by false false so is = so

-- that of one that can't be held is no document's
pub value-unheld : (x : Scaled) → normal_form x ≡ None
    → everywhere is_allowed (number_value x) ≡ false
value-unheld x is =
    by (unsigned_abs x.coefficient == 0) (normal_number (coefficient_in x) (exponent_in x))
    (value_of_digits (coefficient_in x) (exponent_in x))
    (digits-unheld (coefficient_in x) (exponent_in x)) is
  where
    by : (b : Bool) (o : Option Number) (v : Value)
        → (o ≡ None → everywhere is_allowed v ≡ false)
        → (if b then Some (Whole (pos 0)) else o) ≡ None
        → everywhere is_allowed (if b then whole (pos 0) else v) ≡ false
    by true o v so is = absurd (none-some _ (sym is))
    by false o v so is = so is

-- a number in the form that it is held in may be a document's
pub held-allowed : (n : Number) → IsNormal n → everywhere is_allowed (held_value n) ≡ true
held-allowed (Whole z) normal = normal
held-allowed (Decimal d) normal = (decimal-told (scaled_decimal d)).1 normal

normal-of : (x : Scaled) (n : Number) (o : Option Number) → o ≡ Some n
    → MatchOption o (IsOutOfRange x) (IsHeldAs x) → IsHeldAs x n
normal-of x n None is right = absurd (none-some n is)
normal-of x n (Some m) is right = subst (IsHeldAs x) (same_Some m n is) right

-- so the value of a number that can be held may be a document's
pub value-allowed : (x : Scaled) (n : Number) → normal_form x ≡ Some n
    → everywhere is_allowed (number_value x) ≡ true
value-allowed x n is =
    ap (everywhere is_allowed) (value-held x n is)
    ∙ held-allowed n (normal-of x n (normal_form x) is (normal_form-right x)).normal

-- a whole number of 64 bits is held as such
whole-form : (z : ℤ) → is_in_64_bits z ≡ true → (o : Option Number)
    → MatchOption o (IsOutOfRange (unscaled z)) (IsHeldAs (unscaled z)) → o ≡ Some (Whole z)
whole-form z fits None out = absurd (out (Whole z) fits (same-itself (unscaled z)))
whole-form z fits (Some n) held = ap Some (one-normal n (Whole z) held.normal fits held.same)

pub whole-value : (z : ℤ) → is_in_64_bits z ≡ true → number_value (unscaled z) ≡ whole z
whole-value z fits =
    value-held (unscaled z) (Whole z)
    (whole-form z fits (normal_form (unscaled z)) (normal_form-right (unscaled z)))

-- what f answers of each number that is whole and of 64 bits, and of each decimal, it answers of all
pub number-always : {A : Type 0} {a : A} (f : Value → A)
    → ((z : ℤ) → is_in_64_bits z ≡ true → f (whole z) ≡ a)
    → ((c e : ℤ) → f (decimal c e) ≡ a) → (x : Scaled) → f (number_value x) ≡ a
number-always {A = A} {a = a} f whole-is decimal-is x =
    by (unsigned_abs x.coefficient == 0) (value_of_digits (coefficient_in x) (exponent_in x))
    (digits (coefficient_in x) (exponent_in x))
  where
    by : (b : Bool) (v : Value) → f v ≡ a → f (if b then whole (pos 0) else v) ≡ a
    by true v is = whole-is (pos 0) refl
    by false v is = is

    inside : (c e : ℤ) → is_whole_64 c e ≡ true → is_in_64_bits (c *ℤ pos (10 ^ from_zero e)) ≡ true
    inside c (pos n) is = is
    inside c (negsuc n) is = absurd (false≢true is)

    digits : (c e : ℤ) → f (value_of_digits c e) ≡ a
    digits c e = choose (is_whole_64 c e) refl
      where
        choose : (b : Bool) → is_whole_64 c e ≡ b
            → f (if b then whole (c *ℤ pos (10 ^ from_zero e)) else decimal c e) ≡ a
        choose true is = whole-is (c *ℤ pos (10 ^ from_zero e)) (inside c e is)
        choose false is = decimal-is c e

-- the text of a number in the form that it is held in has that number for its value
pub written-value : (n : Number) → IsNormal n
    → number_value (value_of_text (number_text n)) ≡ held_value n
written-value n normal =
    let x = value_of_text (number_text n) in
    value-held x n (by (normal_form x) (normal_form-right x))
  where
    by : (o : Option Number)
        → MatchOption o (IsOutOfRange (value_of_text (number_text n)))
        (IsHeldAs (value_of_text (number_text n))) → o ≡ Some n
    by None out = absurd (out n normal (same-sym (value_of_text (number_text n)) (scaled_of n) (read-back n normal)))
    by (Some m) held =
        ap Some (one-normal m n held.normal normal
        (same-trans (scaled_of m) (value_of_text (number_text n)) (scaled_of n) held.same
        (read-back n normal)))
