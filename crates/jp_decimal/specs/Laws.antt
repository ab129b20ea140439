-- Laws of numbers.
use Rattle.std.specs.Prelude.{◌≡◌, ◌↔◌, ℕ, ℤ, List, Bool, Some, true, pos}
use Rattle.std.specs.Cmp.{IsTotalOrder}
use Rattle.json.specs.Print.{IsNumber}
use Rattle.serde_json.specs.Data.{negative, unsigned}
use Rattle.serde_json.specs.Read.{number_of}
use Rattle.fast_float.specs.Text.{IsInteger, digits_of, scan, with_sign}
use Rattle.jp_decimal.specs.NumberText.{number_text}
use Rattle.jp_decimal.specs.Grammar.{Writes}
use Rattle.jp_decimal.specs.Number.{IsDecimal, IsNormal, is_decimal, scaled_of, unscaled}
use Rattle.jp_decimal.specs.Scaled.{Scaled, SameNumber, scaled_cmp}
use Rattle.jp_decimal.specs.TextValue.{value_of_parts, value_of_text}
use Rattle.jp_decimal.specs.declared.number.Number.{Number}

-- of two numbers, one is less or they are the same number; what is less than less is less
abbrev pub OneOrder : Type 0
OneOrder = IsTotalOrder scaled_cmp

-- a number is held in one form
abbrev pub OneForm : Type 0
OneForm = (m n : Number) → IsNormal m → IsNormal n → SameNumber (scaled_of m) (scaled_of n) → m ≡ n

-- a text writes one number at most, and that is read of it
abbrev pub OneValue : Type 0
OneValue = (t : List ℕ) (x : Scaled) → Writes t x → value_of_text t ≡ x

-- a text is one of a JSON number, and writes the number y
pub record WritesSame (t : List ℕ) (y : Scaled) : Type 0 where
  pub value : Scaled
  pub writes : Writes t value
  pub same : SameNumber value y

-- the text of a number is one of a JSON number, and writes that number
abbrev pub WrittenBack : Type 0
WrittenBack = (n : Number) → IsNormal n → WritesSame (number_text n) (scaled_of n)

-- different numbers have different texts
abbrev pub OneText : Type 0
OneText = (m n : Number) → IsNormal m → IsNormal n → number_text m ≡ number_text n → m ≡ n

-- digits with neither a point nor an exponent write the whole number that they are, as ever
abbrev pub IntegersStay : Type 0
IntegersStay =
    (negative : Bool) (s : List ℕ) → IsInteger (scan s)
    → value_of_parts negative (scan s) ≡ unscaled (with_sign negative (digits_of (scan s)))

-- the test of decimals
abbrev pub DecimalTold : Type 0
DecimalTold = (x : Scaled) → is_decimal x.coefficient x.exponent ≡ true ↔ IsDecimal x

-- each text that the kit's lexer takes for a number writes one
abbrev pub EachNumberWrites : Type 0
EachNumberWrites = (s : List ℕ) → IsNumber s → (x : Scaled) × Writes s x

-- a text that `serde_json` reads as a whole number writes that number
pub record WholeNumbersStay : Type 0 where
  pub from_zero : (s : List ℕ) (n : ℕ) → number_of s ≡ Some (unsigned n)
      → value_of_text s ≡ unscaled (pos n)
  pub below_zero : (s : List ℕ) (z : ℤ) → number_of s ≡ Some (negative z)
      → value_of_text s ≡ unscaled z
