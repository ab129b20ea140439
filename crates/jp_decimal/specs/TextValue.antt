-- The number that a text writes, by the parts that the kit's `scan` cuts it into (RFC 8259 section
-- 6).
use Rattle.std.specs.Prelude.{ℕ, ◌==◌, List, length, drop, slice_index, ℤ, pos, ◌-ℤ◌, Bool, true}
use Rattle.std.specs.Prelude.{false, if◌then◌else◌}
use Rattle.std.specs.Str.Parse.{digits_value}
use Rattle.fast_float.specs.Text.{Parts, scan, minus, digits_of, with_sign}
use Rattle.jp_decimal.specs.Scaled.{Scaled}

-- the power of ten that the digits, read as one number, are to be multiplied by
abbrev pub exponent_of : Parts → ℤ
exponent_of p =
    with_sign p.exponent_negative (digits_value 10 p.exponent) -ℤ pos (length p.fraction)

-- the number that the parts of a text write, behind a sign or none
abbrev pub value_of_parts : Bool → Parts → Scaled
value_of_parts negative p =
    record { coefficient = with_sign negative (digits_of p); exponent = exponent_of p }

-- the number that a text writes
abbrev pub value_of_text : List ℕ → Scaled
value_of_text s =
    if slice_index s 0 == minus then value_of_parts true (scan (drop 1 s))
    else value_of_parts false (scan s)
