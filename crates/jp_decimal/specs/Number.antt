-- Numbers in the form that they are held in.
use Rattle.std.specs.Prelude.{◌≡◌, ◌≢◌, ◌-◌, ◌%◌, ◌^◌, ◌<◌, ℤ, pos, negsuc, ◌*ℤ◌, ◌≤ℤ◌, Bool, true}
use Rattle.std.specs.Prelude.{false, nat_lt, unsigned_abs, ◌&&◌, ◌==◌, not, int_lt}
use Rattle.jp_decimal.specs.Scaled.{Scaled}
use Rattle.jp_decimal.specs.declared.number.Decimal.{Decimal}
use Rattle.jp_decimal.specs.declared.number.Number.{Number}
use Rattle.jp_decimal.specs.declared.number.Number.TheVariants.{Whole, Decimal as AsDecimal}

-- z is from -(2^63) to (2^64)-1, so that it is held as i64 or u64
abbrev pub is_in_64_bits : ℤ → Bool
is_in_64_bits (pos n) = nat_lt n (2 ^ 64)
is_in_64_bits (negsuc n) = nat_lt n (2 ^ 63)

-- the number z, with the exponent 0
abbrev pub unscaled : ℤ → Scaled
unscaled z = record { coefficient = z; exponent = pos 0 }

-- the number that a decimal is
abbrev pub scaled_decimal : Decimal → Scaled
scaled_decimal d = record { coefficient = d.coefficient; exponent = d.exponent }

-- the number that is held
abbrev pub scaled_of : Number → Scaled
scaled_of (Whole z) = unscaled z
scaled_of (AsDecimal d) = scaled_decimal d

-- c times ten to the e, where c does not end in 0, is a whole number of 64 bits
abbrev pub is_whole_64 : ℤ → ℤ → Bool
is_whole_64 c (pos n) = is_in_64_bits (c *ℤ pos (10 ^ n))
is_whole_64 c (negsuc n) = false

-- at most 38 digits, of which the last is not 0, times ten to an exponent from -1,000,000 to
-- 1,000,000, and no whole number of 64 bits
pub record IsDecimal (x : Scaled) : Type 0 where
  pub short : unsigned_abs x.coefficient < 10 ^ 38
  pub ends : unsigned_abs x.coefficient % 10 ≢ 0
  pub low : negsuc (10 ^ 6 - 1) ≤ℤ x.exponent
  pub high : x.exponent ≤ℤ pos (10 ^ 6)
  pub apart : is_whole_64 x.coefficient x.exponent ≡ false

-- the form that a number is held in: a whole number of 64 bits as such, any other as a decimal
abbrev pub IsNormal : Number → Type 0
IsNormal (Whole z) = is_in_64_bits z ≡ true
IsNormal (AsDecimal d) = IsDecimal (scaled_decimal d)

-- the test of IsDecimal
abbrev pub is_decimal : ℤ → ℤ → Bool
is_decimal c e =
    nat_lt (unsigned_abs c) (10 ^ 38) && not (unsigned_abs c % 10 == 0)
    && not (int_lt e (negsuc (10 ^ 6 - 1))) && not (int_lt (pos (10 ^ 6)) e)
    && not (is_whole_64 c e)
