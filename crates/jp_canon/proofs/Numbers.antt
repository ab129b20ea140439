-- Numbers in decimal spell themselves.
use Rattle.std.proofs.Common.{◌≡◌, ℕ, zero, suc, ◌+◌, ◌-◌, ◌*◌, ◌^◌, ◌<◌, ◌≤◌, ltb}
use Rattle.std.proofs.Common.{leb, true, false, None, [], ◌∷◌, ◌++◌, pos, negsuc, codes}
use Rattle.std.proofs.Common.{refl, sym, ap, ap₂, subst, ◌∙◌, inl, inr, arith, append-nil}
use Rattle.std.specs.Fmt.{decimal, signed_decimal}
use Rattle.std.specs.Prelude.{ℤ}
use Rattle.std.proofs.lemmas.Bool.{cases_Bool, leb-true, ltb-true}
use Rattle.std.proofs.lemmas.Bool.Decides.{nat_tests}
use Rattle.jp_reading.specs.Characters as char
use Rattle.jp_reading.specs.Forms.{Form}
use Rattle.jp_reading.specs.Numbers.{is_digit, value_from}
use Rattle.jp_reading.specs.Texts.{Spans, Text}
use Rattle.jp_reading.proofs.Texts.Digits.{value_from-least}
use Rattle.jp_document.specs.Path.{index_text}
use Rattle.jp_document.proofs.Spellings.Indexes.{Begun, begun, decimal-index_text, other_text}
use Rattle.jp_document.proofs.Spellings.Indexes.{value_from-index_text, zero_text}
use Rattle.jp_tree.specs.declared.tree.Numeral.{Numeral}
use Rattle.jp_tree.specs.declared.tree.Numeral.TheVariants.{Beyond, Fraction, Whole}
use Rattle.jp_query.specs.Ints.{Int, negative_int}
use Rattle.jp_reading.specs.Numbers.{is_leading_digit}
use Rattle.jp_query.specs.Ints.{negative_of, positive_int, whole_of, zero_int}
use Rattle.jp_query.specs.Literals.{Decimals, Exponent, Mantissa, Number, Optional, integer}
use Rattle.jp_query.specs.Literals.{left_out, minus_zero, number, number_in, whole, written}
use Rattle.jp_query.proofs.Readers.Integers.{signed-int}
use Rattle.jp_canon.specs.Canon.{numeral_text}
use Rattle.jp_canon.proofs.Decimals.{all-passing, has-decimal_in, has-fraction_in}
use Rattle.jp_canon.proofs.Forms.{Has, both, has-as, has-equal_tree, has-each_passing, has-one}
use Rattle.jp_canon.proofs.Forms.{has-same, has-word}

-- ---- whole numbers, by their digits

above_zero-leading : (d : ℕ) → is_digit d ≡ true → char.digit_zero < d → is_leading_digit d ≡ true
unfolding is_digit
above_zero-leading d is above = grind (arith, nat_tests)

has-no_sign : (n : ℕ) (w : Text) → Begun n w → value_from 0 w ≡ n → Has (Int (whole_of n)) w
has-no_sign n w (zero_text is shape) value = has-same (sym shape)
    (has-as (λ s o. zero_int (ap whole_of is)) (has-word (char.digit_zero ∷ [])))
has-no_sign n w (other_text d ds shape is all above) value =
    has-same (sym shape)
    (has-as (λ s o. positive_int d ds (ap whole_of (sym value ∙ ap (value_from 0) shape)))
    (both (has-one is_leading_digit d (above_zero-leading d is above))
    (has-each_passing is_digit ds all)))

has-negative : (n : ℕ) (w : Text) → Begun n w → value_from 0 w ≡ n → 0 < n
    → Has (Int (negative_of n)) (char.minus ∷ w)
has-negative n w (zero_text is shape) value some = absurd (omega arith)
has-negative n w (other_text d ds shape is all above) value some =
    has-same (ap (λ t. char.minus ∷ t) (sym shape))
    (has-as (λ s o. negative_int d ds (ap negative_of (sym value ∙ ap (value_from 0) shape)))
    (both (has-word (char.minus ∷ []))
    (both (has-one is_leading_digit d (above_zero-leading d is above))
    (has-each_passing is_digit ds all))))

pub has-decimal : (n : ℕ) → n < 2 ^ 64 → Has (Int (whole_of n)) (decimal n)
has-decimal n fits = has-same (sym (decimal-index_text n fits))
    (has-no_sign n (index_text n) (begun n) (value_from-index_text n))

-- ---- beyond the range

has-beyond : Has (Int (Beyond None)) (numeral_text (Beyond None))
unfolding is_digit
has-beyond =
    let more : Text = codes "11111111111111111111111111111111111111" in
    has-as (λ s o. positive_int char.digit_one more refl)
    (both (has-one is_leading_digit char.digit_one refl)
    (has-each_passing is_digit more (all-passing is_digit more refl)))

-- ---- every int

has-whole_of : (n : ℕ) → Has (Int (whole_of n)) (numeral_text (whole_of n))
has-whole_of n =
    elim (cases_Bool (ltb n (2 ^ 64))) [
      | inl fits ↦
          let is : whole_of n ≡ Whole (pos n) = rw fits refl in
          has-equal_tree Int numeral_text is
          (subst (λ i. Has (Int i) (decimal n)) is (has-decimal n (ltb-true n (2 ^ 64) fits)))
      | inr large ↦ has-equal_tree Int numeral_text {y = Beyond None} (rw large refl) has-beyond
    ]

has-negative_of : (n : ℕ) → 0 < n → Has (Int (negative_of n)) (numeral_text (negative_of n))
has-negative_of zero some = absurd (omega arith)
has-negative_of (suc m) some =
    elim (cases_Bool (leb (suc m) (2 ^ 63))) [
      | inl fits ↦
          let is : negative_of (suc m) ≡ Whole (negsuc m) = rw fits refl in
          let small : suc m ≤ 2 ^ 63 = leb-true (suc m) (2 ^ 63) fits in
          let text = decimal-index_text (suc m) (omega arith) in
          has-equal_tree Int numeral_text is
          (subst (λ i. Has (Int i) (char.minus ∷ decimal (suc m))) is
          (has-same (ap (λ t. char.minus ∷ t) (sym text))
          (has-negative (suc m) (index_text (suc m)) (begun (suc m))
          (value_from-index_text (suc m)) some)))
      | inr large ↦ has-equal_tree Int numeral_text {y = Beyond None} (rw large refl) has-beyond
    ]

value-some : (c : ℕ) (more : Text) → is_leading_digit c ≡ true → 0 < value_from 0 (c ∷ more)
value-some c more is =
    let above : char.digit_one ≤ c = grind (arith, nat_tests) in
    omega (arith, value_from-least (0 * 10 + (c - char.digit_zero)) more)

-- the canonical text of what some text spells as an int
pub int : (i : Numeral) (s : Spans) (o : ℕ) (t : Text) → Int i s o t → Has (Int i) (numeral_text i)
int i s o t (zero_int is h) = has-equal_tree Int numeral_text is (has-whole_of 0)
int i s o t (positive_int c more is h) = has-equal_tree Int numeral_text is
    (has-whole_of (value_from 0 (c ∷ more)))
int i s o t (negative_int c more is h) =
    has-equal_tree Int numeral_text is
    (has-negative_of (value_from 0 (c ∷ more)) (value-some c more h.two.one.passes))

-- ---- numbers of literals

mantissa : (i : Numeral) (s : Spans) (o : ℕ) (t : Text) → Mantissa i s o t
    → Has (Mantissa i) (numeral_text i)
mantissa i s o t (whole h) = has-as (λ r p. whole) (int i s o t h)
mantissa i s o t (minus_zero is h) = has-equal_tree Mantissa numeral_text is
    (has-as (λ r p. whole) (has-whole_of 0))

left-out : {P : Form} {s : Spans} {o : ℕ} {t : Text} → Optional P false s o t → t ≡ []
left-out (left_out e h) = h.is
left-out (written e h) = absurd (cc)

has-left_out : (P : Form) → Has (Optional P false) []
has-left_out P = has-as (λ s o. left_out refl) (has-word [])

-- a whole number of 64 bits
has-plain : (z : ℤ) → Has (Mantissa (Whole z)) (signed_decimal z)
    → Has (Number (Whole z)) (signed_decimal z)
has-plain z h =
    has-same (append-nil (signed_decimal z))
    (has-as (λ s o. number (Whole z) false false refl)
    (both h (both (has-left_out Decimals) (has-left_out Exponent))))

-- what a text without a fraction and an exponent spells
without-point : (i j : Numeral) (s : Spans) (o : ℕ) (t : Text) → i ≡ integer j (number_in t)
    → Mantissa j s o t
    → Has (Number i) (numeral_text i)
without-point i (Whole z) s o t is h =
    has-equal_tree Number numeral_text is (has-plain z (mantissa (Whole z) s o t h))
without-point i (Beyond m) s o t is h =
    has-equal_tree Number numeral_text is (has-decimal_in t (signed-int (Beyond m) s o t h))
without-point i (Fraction n) s o t is h =
    has-equal_tree Number numeral_text is (has-decimal_in t (signed-int (Fraction n) s o t h))

pub number-text : (i : Numeral) (s : Spans) (o : ℕ) (t : Text) → Number i s o t
    → Has (Number i) (numeral_text i)
number-text i s o t (number j false false is h) =
    let none : t ≡ h.first =
    h.is ∙ ap (λ w. h.first ++ w) (h.two.is ∙ ap₂ (λ v w. v ++ w) (left-out h.two.one) (left-out h.two.two))
    ∙ append-nil h.first in
    without-point i j h.first_spans o t is
    (subst (Mantissa j h.first_spans o) (sym none) h.one)
number-text i s o t (number j true has_exponent is h) =
    has-equal_tree Number numeral_text is (has-fraction_in t)
number-text i s o t (number j false true is h) =
    has-equal_tree Number numeral_text is (has-fraction_in t)
