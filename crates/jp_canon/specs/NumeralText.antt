-- The canonical texts of decimals: as a number that was written with a fraction or an exponent, and as
-- one that was written without.
use Rattle.std.specs.Prelude.{ℕ, ◌==◌, ◌||◌, Bool, if◌then◌else◌, [], ◌++◌, codes, unsigned_abs}
use Rattle.std.specs.Fmt.{decimal, sign_text, signed_decimal}
use Rattle.std.specs.List.{list_any}
use Rattle.jp_decimal.specs.NumberText.{number_text, zeros}
use Rattle.jp_decimal.specs.Scaled.{from_zero, is_below_zero}
use Rattle.jp_decimal.specs.declared.number.Decimal.{Decimal}
use Rattle.jp_decimal.specs.declared.number.Number.{Number}
use Rattle.jp_decimal.specs.declared.number.Number.TheVariants.{Whole, Decimal as AsDecimal}
use Rattle.jp_query.specs.Literals.{is_e}
use Rattle.jp_reading.specs.Characters.{dot}
use Rattle.jp_reading.specs.Texts.{Text}

-- a whole number: its digits, and a zero for each ten that it is multiplied by
abbrev pub integer_text : Decimal → Text
integer_text d =
    sign_text (is_below_zero d.coefficient)
    ++ (decimal (unsigned_abs d.coefficient) ++ zeros (from_zero d.exponent))

-- a point, or what begins an exponent
abbrev pub is_point : ℕ → Bool
is_point c = (c == dot) || is_e c

-- a number in the layout of RFC 8785 section 3.2.2.3, with `.0` behind it where that has neither a
-- point nor an exponent
abbrev pub fraction_text : Number → Text
fraction_text (Whole z) = signed_decimal z ++ codes ".0"
fraction_text (AsDecimal d) =
    number_text (AsDecimal d)
    ++ (if list_any is_point (number_text (AsDecimal d)) then [] else codes ".0")
