-- Which numbers tables take.
use Rattle.std.specs.Prelude.{Bool, true, false}
use Rattle.jp_decimal.specs.declared.numbers.Numbers.{Numbers}
use Rattle.jp_decimal.specs.declared.numbers.Numbers.TheVariants.{Whole, Decimal}

-- such numbers are decimals
abbrev pub is_exact : Numbers → Bool
is_exact Whole = false
is_exact Decimal = true
