-- Numbers as a whole number times a power of ten, and how they stand.
use Rattle.std.specs.Prelude.{ℕ, ◌^◌, ℤ, pos, negsuc, ◌-ℤ◌, ◌*ℤ◌, ◌≡◌, Bool, true, false}
use Rattle.std.specs.Ordering.{int_cmp}
use Rattle.std.specs.declared.cmp.Ordering.{Ordering}

-- the number `coefficient` times ten to the `exponent`
pub record Scaled : Type 0 where
  pub coefficient : ℤ
  pub exponent : ℤ

-- whether z is below 0
abbrev pub is_below_zero : ℤ → Bool
is_below_zero (pos n) = false
is_below_zero (negsuc n) = true

-- z, and 0 where z is below 0
abbrev pub from_zero : ℤ → ℕ
from_zero (pos n) = n
from_zero (negsuc n) = 0

-- x's coefficient, times ten for each by which x's exponent is above e
abbrev pub raised : Scaled → ℤ → ℤ
raised x e = x.coefficient *ℤ pos (10 ^ from_zero (x.exponent -ℤ e))

-- how two numbers stand: their coefficients, both at the lower of their exponents
abbrev pub scaled_cmp : Scaled → Scaled → Ordering
scaled_cmp x y = int_cmp (raised x y.exponent) (raised y x.exponent)

-- they are the same number
abbrev pub SameNumber : Scaled → Scaled → Type 0
SameNumber x y = raised x y.exponent ≡ raised y x.exponent
