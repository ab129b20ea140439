-- The numbers of each profile.
use Rattle.jp_decimal.specs.declared.numbers.Numbers.{Numbers}
use Rattle.jp_decimal.specs.declared.numbers.Numbers.TheVariants.{Decimal as DecimalNumbers}
use Rattle.jp_decimal.specs.declared.numbers.Numbers.TheVariants.{Whole as WholeNumbers}
use Rattle.jp_check.specs.declared.profile.Profile.{Profile}
use Rattle.jp_check.specs.declared.profile.Profile.TheVariants.{Standard, Extended, Decimal}
use Rattle.jp_check.specs.declared.profile.Profile.TheVariants.{ExtendedDecimal}

-- whole numbers of 64 bits, or exact decimals
abbrev pub numbers : Profile → Numbers
numbers Standard = WholeNumbers
numbers Extended = WholeNumbers
numbers Decimal = DecimalNumbers
numbers ExtendedDecimal = DecimalNumbers
