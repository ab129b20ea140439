-- The values of numbers, whole and exact: for what is read in each mode.
use Rattle.std.proofs.Common.{◌≡◌, ℕ, pos, true, List, Some, refl, sym, ap, ◌∙◌}
use Rattle.std.proofs.lemmas.Option.{none-some, same_Some}
use Rattle.serde_json.specs.Data.{Num, number as number_data, unsigned, negative, float}
use Rattle.serde_json.specs.Read.{number_of}
use Rattle.jp_decimal.specs.NormalForm.{normal_form}
use Rattle.jp_decimal.specs.Scaled.{Scaled}
use Rattle.jp_decimal.specs.TextValue.{value_of_text}
use Rattle.jp_decimal.specs.declared.number.Number.{Number}
use Rattle.jp_decimal.specs.declared.number.Number.TheVariants.{Whole, Decimal}
use Rattle.jp_decimal.proofs.WholeNumbers.{below-zero, from-zero}
use Rattle.jp_document.specs.Document.{value_of_data}
use Rattle.jp_document.specs.NumberValue.{number_value}
use Rattle.jp_document.specs.Value.{Value, everywhere, is_allowed, whole}
use Rattle.jp_document.proofs.NumberValues.{held_value, value-allowed, value-held, whole-value}
use Rattle.jp_document.proofs.Options.{some_from_then}
use Rattle.jp_document.proofs.Readings.Ranges.{number-fits}
use Rattle.jp_flat.specs.Asked.{is_leaf}
use Rattle.jp_document.specs.NumberTexts.{whole_number}
use Rattle.jp_flat.specs.Private.Bounded.{is_bounded}

-- a whole number that is read is the number that its characters write
pub whole-kept : (s : List ℕ) (v : Value) → whole_number s ≡ Some v
    → number_value (value_of_text s) ≡ v
whole-kept s v is =
    let n = some_from_then (λ n. value_of_data (number_data n)) (number_of s) v is in
    by n.0 n.1 n.2
  where
    by : (n : Num) → number_of s ≡ Some n → value_of_data (number_data n) ≡ Some v
        → number_value (value_of_text s) ≡ v
    by (unsigned k) e is =
        ap number_value (from-zero s k e) ∙ whole-value (pos k) (number-fits s (unsigned k) e)
        ∙ same_Some (whole (pos k)) v is
    by (negative z) e is =
        ap number_value (below-zero s z e) ∙ whole-value z (number-fits s (negative z) e)
        ∙ same_Some (whole z) v is
    by (float x) e is = absurd (none-some v is)

-- ---- numbers that can be held

held-bounded : (n : Number) → everywhere is_allowed (held_value n) ≡ true
    → everywhere is_bounded (held_value n) ≡ true
held-bounded (Whole z) fits = refl
held-bounded (Decimal d) fits = fits

held-leaf : (n : Number) → is_leaf (held_value n) ≡ true
held-leaf (Whole z) = refl
held-leaf (Decimal d) = refl

pub value-bounded : (x : Scaled) (n : Number) → normal_form x ≡ Some n
    → everywhere is_bounded (number_value x) ≡ true
value-bounded x n is =
    let same = value-held x n is in
    ap (everywhere is_bounded) same
    ∙ held-bounded n (ap (everywhere is_allowed) (sym same) ∙ value-allowed x n is)

pub value-leaf : (x : Scaled) (n : Number) → normal_form x ≡ Some n
    → is_leaf (number_value x) ≡ true
value-leaf x n is = ap is_leaf (value-held x n is) ∙ held-leaf n
