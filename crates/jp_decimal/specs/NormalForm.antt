-- Which number is held in which form, and which in none; and the form as a function, which
-- computes.
use Rattle.std.specs.Prelude.{ℕ, zero, suc, ◌==◌, ◌/◌, ◌%◌, ◌^◌, ℤ, pos, ◌+ℤ◌, ◌*ℤ◌, Bool, Option}
use Rattle.std.specs.Prelude.{Some, None, unsigned_abs, if◌then◌else◌}
use Rattle.fast_float.specs.Text.{with_sign}
use Rattle.jp_decimal.specs.Number.{IsNormal, is_decimal, is_whole_64, scaled_of}
use Rattle.jp_decimal.specs.Scaled.{Scaled, SameNumber, from_zero, is_below_zero}
use Rattle.jp_decimal.specs.declared.number.Number.{Number}
use Rattle.jp_decimal.specs.declared.number.Number.TheVariants.{Whole, Decimal}

-- the number x is held as n
pub record IsHeldAs (x : Scaled) (n : Number) : Type 0 where
  pub normal : IsNormal n
  pub same : SameNumber (scaled_of n) x

-- no number that is held is the number x
abbrev pub IsOutOfRange : Scaled → Type 0
IsOutOfRange x = (n : Number) → IsNormal n → SameNumber (scaled_of n) x → ⊥

-- v without zeros at its end, of which there are at most so many, and how many there are beside z
abbrev pub without_zeros : ℕ → ℕ → ℕ → ℕ × ℕ
without_zeros zero v z = (v, z)
without_zeros (suc most) v z = if v % 10 == 0 then without_zeros most (v / 10) (suc z) else (v, z)

-- c times ten to the e, where c does not end in 0
abbrev pub normal_number : ℤ → ℤ → Option Number
normal_number c e =
    if is_whole_64 c e then Some (Whole (c *ℤ pos (10 ^ from_zero e)))
    else (if is_decimal c e then Some (Decimal (record { coefficient = c; exponent = e }))
    else None)

-- the size's digits and its zeros, behind a sign or none
abbrev pub normal_signed : Bool → ℤ → ℕ × ℕ → Option Number
normal_signed negative e s = normal_number (with_sign negative s.0) (e +ℤ pos s.1)

-- the form in which the number x is held, None where it is out of range
abbrev pub normal_form : Scaled → Option Number
normal_form x =
    if unsigned_abs x.coefficient == 0 then Some (Whole (pos 0))
    else normal_signed (is_below_zero x.coefficient) x.exponent
    (without_zeros (unsigned_abs x.coefficient) (unsigned_abs x.coefficient) 0)
