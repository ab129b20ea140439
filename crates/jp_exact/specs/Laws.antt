-- Laws about the definitions.
use Rattle.std.specs.Prelude.{◌≡◌, ◌⊎◌, ℕ, List}
use Rattle.jp_decimal.specs.declared.numbers.Numbers.{Numbers}
use Rattle.jp_decimal.specs.declared.numbers.Numbers.TheVariants.{Whole, Decimal}
use Rattle.jp_document.specs.Exact.{IsExactDocument}
use Rattle.jp_document.specs.Laws.{DocumentOrDefect}
use Rattle.jp_document.specs.Value.{Value}
use Rattle.jp_exact.specs.Defects.{ExactDefect, HasExactDefect}

-- bytes are an exact document, and the exact document of one value, or have a defect, and one alone;
-- and not both
pub record IsExactOrDefect (bytes : List ℕ) : Type 0 where
  pub answered : ((v : Value) × IsExactDocument bytes v) ⊎ ((x : ExactDefect) × HasExactDefect bytes x)
  pub one_value : (v w : Value) → IsExactDocument bytes v → IsExactDocument bytes w → v ≡ w
  pub one_defect : (x y : ExactDefect) → HasExactDefect bytes x → HasExactDefect bytes y → x ≡ y
  pub not_both : (v : Value) (x : ExactDefect) → IsExactDocument bytes v → HasExactDefect bytes x → ⊥

-- whatever the bytes
abbrev pub ExactOrDefect : Type 0
ExactOrDefect = (bytes : List ℕ) → IsExactOrDefect bytes

-- bytes are a document with such numbers, or have a defect
abbrev pub OneDocumentOrDefect : Numbers → Type 0
OneDocumentOrDefect Whole = DocumentOrDefect
OneDocumentOrDefect Decimal = ExactOrDefect
