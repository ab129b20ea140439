-- The texts of indexes are digits that write the index without a leading zero, as `itoa` prints
-- them: for paths.
use Rattle.std.proofs.Common.{◌≡◌, ℕ, ◌+◌, ◌*◌, ◌-◌, ◌/◌, ◌%◌, ◌<◌, ◌≤◌, eqb, true, false}
use Rattle.std.proofs.Common.{List, [], ◌∷◌, ◌++◌, get_or, map, inl, inr, refl, sym, ap}
use Rattle.std.proofs.Common.{◌∙◌, append_assoc, append-nil, arith, zero, suc, ◌^◌, cond}
use Rattle.std.proofs.lemmas.Bool.{cases_Bool, eqb-true}
use Rattle.std.proofs.lemmas.Bool.Decides.{nat_tests}
use Rattle.std.proofs.lemmas.Int.Digits.{number_digits_of, all_below_base_digits_of}
use Rattle.std.proofs.lemmas.Int.Digits.{first_digits_of, digits_of_step}
use Rattle.std.specs.Int.Digits.{digits_of, number_from_digits_after, AllBelowBase}
use Rattle.std.proofs.Math.Dec.{eqb-suc-zero}
use Rattle.std.proofs.lemmas.Fmt.{decimal_digit, decimal-digits_of}
use Rattle.std.specs.Fmt.{decimal}
use Rattle.jp_reading.specs.Characters as char
use Rattle.jp_reading.specs.Forms.{AllPassing}
use Rattle.jp_reading.specs.Numbers.{is_digit, value_from}
use Rattle.jp_reading.proofs.Texts.Digits.{value_from-least}
use Rattle.jp_document.specs.Path.{index_text}

-- the character of a digit
abbrev digit_text : ℕ → ℕ
digit_text d = char.digit_zero + d

value_from-digit_texts : (n : ℕ) (ds : List ℕ)
    → value_from n (map digit_text ds) ≡ number_from_digits_after 10 n ds
value_from-digit_texts n [] = refl
value_from-digit_texts n (d ∷ ds) =
    ap (λ (x : ℕ). value_from (n * 10 + x) (map digit_text ds))
    (let e : char.digit_zero + d - char.digit_zero ≡ d = omega arith in e)
    ∙ value_from-digit_texts (n * 10 + d) ds

all_digits : (ds : List ℕ) → AllBelowBase 10 ds → AllPassing is_digit (map digit_text ds)
unfolding is_digit
all_digits [] h = tt
all_digits (d ∷ ds) h = (let small : d < 10 = h.0 in grind (arith, nat_tests), all_digits ds h.1)

-- the text writes the index
pub value_from-index_text : (n : ℕ) → value_from 0 (index_text n) ≡ n
unfolding index_text
value_from-index_text n =
    elim (cases_Bool (eqb n 0)) [
      | inl e ↦ rw e (sym (eqb-true n 0 e))
      | inr e ↦
          rw e (value_from-digit_texts 0 (digits_of 10 n) ∙ number_digits_of 10 n (omega arith))
    ]

-- it is digits
pub digits-index_text : (n : ℕ) → AllPassing is_digit (index_text n)
unfolding index_text is_digit
digits-index_text n =
    elim (cases_Bool (eqb n 0)) [
      | inl e ↦ rw e (refl, tt)
      | inr e ↦ rw e (all_digits (digits_of 10 n) (all_below_base_digits_of 10 n (omega arith)))
    ]

-- a first digit, and the others
pub data Begun (n : ℕ) (w : List ℕ) : Type 0 where
  zero_text : n ≡ 0 → w ≡ char.digit_zero ∷ [] → Begun n w
  other_text : (d : ℕ) (ds : List ℕ) → w ≡ d ∷ ds → is_digit d ≡ true → AllPassing is_digit ds
      → char.digit_zero < d → Begun n w

begun_by : (n : ℕ) (ds : List ℕ) → 0 < get_or ds 0 0 → AllBelowBase 10 ds
    → Begun n (map digit_text ds)
unfolding is_digit
begun_by n [] first h = absurd (omega arith)
begun_by n (d ∷ ds) first h =
    other_text (char.digit_zero + d) (map digit_text ds) refl
    (let small : d < 10 = h.0 in grind (arith, nat_tests)) (all_digits ds h.1) (omega arith)

-- only the text of 0 begins with a zero
pub begun : (n : ℕ) → Begun n (index_text n)
unfolding index_text
begun n =
    elim (cases_Bool (eqb n 0)) [
      | inl e ↦ zero_text (eqb-true n 0 e) (rw e refl)
      | inr e ↦
          rw e
          (begun_by n (digits_of 10 n)
          (first_digits_of 10 n (omega arith) (grind (arith, nat_tests)))
          (all_below_base_digits_of 10 n (omega arith)))
    ]

-- ---- from digits to the index that they write

abbrev digit_of : ℕ → ℕ
digit_of c = c - char.digit_zero

digits_of_more : (m d : ℕ) → 0 < m → d < 10 → digits_of 10 (m * 10 + d) ≡ digits_of 10 m ++ d ∷ []
digits_of_more m d above small =
    let whole : (m * 10 + d) / 10 ≡ m = omega arith in
    let rest : (m * 10 + d) % 10 ≡ d = omega arith in
    digits_of_step 10 (m * 10 + d) (omega arith) (omega arith)
    ∙ ap (λ n. digits_of 10 n ++ (m * 10 + d) % 10 ∷ []) whole
    ∙ ap (λ n. digits_of 10 m ++ n ∷ []) rest

digit-small : (c : ℕ) → is_digit c ≡ true → (char.digit_zero ≤ c) × (c - char.digit_zero < 10)
unfolding is_digit
digit-small c h = (grind (arith, nat_tests), grind (arith, nat_tests))

digits_of-value : (m : ℕ) (ds : List ℕ) → 0 < m → AllPassing is_digit ds
    → digits_of 10 (value_from m ds) ≡ digits_of 10 m ++ map digit_of ds
digits_of-value m [] above h = sym (append-nil (digits_of 10 m))
digits_of-value m (d ∷ ds) above h =
    digits_of-value (m * 10 + (d - char.digit_zero)) ds (omega arith) h.1
    ∙ ap (λ t. t ++ map digit_of ds)
    (digits_of_more m (d - char.digit_zero) above (digit-small d h.0).1)
    ∙ append_assoc (digits_of 10 m) ((d - char.digit_zero) ∷ []) (map digit_of ds)

one_digit : (m : ℕ) → 0 < m → m < 10 → digits_of 10 m ≡ m ∷ []
one_digit m above small =
    let none : m / 10 ≡ 0 = omega arith in
    let same : m % 10 ≡ m = omega arith in
    digits_of_step 10 m (omega arith) above ∙ ap (λ n. digits_of 10 n ++ m % 10 ∷ []) none
    ∙ ap (λ n. n ∷ []) same

texts : (ds : List ℕ) → AllPassing is_digit ds → map digit_text (map digit_of ds) ≡ ds
texts [] h = refl
texts (d ∷ ds) h =
    let low = (digit-small d h.0).0 in
    let same : char.digit_zero + (d - char.digit_zero) ≡ d = omega arith in
    ap (λ c. c ∷ map digit_text (map digit_of ds)) same ∙ ap (λ t. d ∷ t) (texts ds h.1)

-- digits without a leading zero are the text of the index that they write
pub index_text-value : (d : ℕ) (ds : List ℕ) → AllPassing is_digit (d ∷ ds) → eqb d char.digit_zero
    ≡ false
    → index_text (value_from 0 (d ∷ ds)) ≡ d ∷ ds
unfolding index_text
index_text-value d ds h other =
    let small = digit-small d h.0 in
    let start : 0 * 10 + (d - char.digit_zero) ≡ d - char.digit_zero = omega arith in
    let above : 0 < d - char.digit_zero = grind (arith, nat_tests) in
    let value : value_from 0 (d ∷ ds) ≡ value_from (d - char.digit_zero) ds =
    ap (λ (n : ℕ). value_from n ds) start in
    let least = value_from-least (d - char.digit_zero) ds in
    let other_than : eqb (value_from (d - char.digit_zero) ds) 0
    ≡ false = grind (arith, nat_tests) in
    rw (value, other_than)
    (ap (map digit_text)
    (digits_of-value (d - char.digit_zero) ds above h.1
    ∙ ap (λ t. t ++ map digit_of ds) (one_digit (d - char.digit_zero) above small.1))
    ∙ texts (d ∷ ds) h)

-- ---- as `itoa` prints them

index_text-above : (n : ℕ) → eqb n 0 ≡ false → index_text n
    ≡ map (λ d. char.digit_zero + d) (digits_of 10 n)
unfolding index_text
index_text-above n above = ap (λ b. cond b (char.digit_zero ∷ [])
    (map (λ d. char.digit_zero + d) (digits_of 10 n))) above

pub index_text-zero : char.digit_zero ∷ [] ≡ index_text 0
unfolding index_text
index_text-zero = refl

pub decimal-index_text : (n : ℕ) → n < 2 ^ 64 → decimal n ≡ index_text n
decimal-index_text zero fits = decimal_digit 0 (omega arith) ∙ index_text-zero
decimal-index_text (suc n) fits =
    decimal-digits_of (suc n) (omega arith) fits ∙ sym (index_text-above (suc n) (eqb-suc-zero n))
