-- The values of numbers: each number has one.
use Rattle.std.specs.Prelude.{ℕ, ◌==◌, ◌^◌, ℤ, pos, ◌+ℤ◌, ◌*ℤ◌, Bool, unsigned_abs, if◌then◌else◌}
use Rattle.fast_float.specs.Text.{with_sign}
use Rattle.jp_decimal.specs.NormalForm.{without_zeros}
use Rattle.jp_decimal.specs.Number.{is_whole_64}
use Rattle.jp_decimal.specs.Scaled.{Scaled, from_zero, is_below_zero}
use Rattle.jp_document.specs.Value.{Value, whole, decimal}

-- c times ten to the e, where c does not end in 0: whole where it is a whole number of 64 bits
abbrev pub value_of_digits : ℤ → ℤ → Value
value_of_digits c e = if is_whole_64 c e then whole (c *ℤ pos (10 ^ from_zero e)) else decimal c e

-- the size's digits and its zeros, behind a sign or none
abbrev pub value_of_size : Bool → ℤ → ℕ × ℕ → Value
value_of_size negative e s = value_of_digits (with_sign negative s.0) (e +ℤ pos s.1)

-- the value of the number x
abbrev pub number_value : Scaled → Value
number_value x =
    if unsigned_abs x.coefficient == 0 then whole (pos 0)
    else value_of_size (is_below_zero x.coefficient) x.exponent
    (without_zeros (unsigned_abs x.coefficient) (unsigned_abs x.coefficient) 0)
