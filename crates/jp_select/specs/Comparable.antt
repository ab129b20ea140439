-- The sides of comparisons (RFC 9535 section 2.3.5.1).
use Rattle.std.specs.Prelude.{Option, Some, None, option_map}
use Rattle.std.specs.Borrow.{Bor}
use Rattle.jp_document.specs.Value.{Value, null, boolean, whole, decimal, text, value_of}
use Rattle.jp_document.specs.declared.value.Json.{Json}
use Rattle.jp_select.specs.declared.comparable.Comparable.{Comparable}
use Rattle.jp_select.specs.declared.comparable.Comparable.TheVariants as side

-- the value that a side has, where f says what one that is lent stands for; None is Nothing
abbrev pub comparable_of : {V : Type 0} → (V → Value) → Comparable V → Option Value
comparable_of f side.Nothing = None
comparable_of f side.Null = Some null
comparable_of f (side.Bool b) = Some (boolean b)
comparable_of f (side.Whole z) = Some (whole z)
comparable_of f (side.Decimal e c) = Some (decimal c e)
comparable_of f (side.Text s) = Some (text s.now)
comparable_of f (side.Lent v) = Some (f v)

-- the value of a `Json`; None is Nothing
abbrev pub side_of : Option (Bor Json) → Option Value
side_of o = option_map (λ j. value_of j.now) o
