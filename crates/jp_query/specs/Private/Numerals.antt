-- Whole numbers by the number that their text writes.
use Rattle.std.specs.Prelude.{Option, Some}
use Rattle.jp_decimal.specs.declared.number.Number.{Number as HeldNumber}
use Rattle.jp_decimal.specs.declared.number.Number.TheVariants.{Whole as AsWhole}
use Rattle.jp_tree.specs.declared.tree.Numeral.{Numeral}
use Rattle.jp_tree.specs.declared.tree.Numeral.TheVariants.{Whole, Beyond}
use Rattle.jp_query.specs.Literals.{decimal_in}

-- the whole number that was written
abbrev pub held_integer : Option HeldNumber → Numeral
held_integer (Some (AsWhole z)) = Whole z
held_integer n = Beyond (decimal_in n)
