-- What keeps to a limit of nodes and bytes, and what goes beyond it.
use Rattle.std.specs.Prelude.{◌<◌, ◌≤◌, ◌-◌, ◌^◌, ℕ, Option, Some, None}
use Rattle.jp_limit.specs.declared.output_limit.OutputLimit.{OutputLimit}

-- so many are no more than a limit that there is
abbrev pub KeepsTo : Option ℕ → ℕ → Type 0
KeepsTo None n = Unit {0}
KeepsTo (Some most) n = n ≤ most

-- so many are more than a limit that there is
abbrev pub Exceeds : Option ℕ → ℕ → Type 0
Exceeds None n = ⊥
Exceeds (Some most) n = most < n

-- there are no more nodes than the limit says, and no more bytes
pub record StaysWithin (limit : OutputLimit) (nodes bytes : ℕ) : Type 0 where
  pub few : KeepsTo limit.nodes nodes
  pub short : KeepsTo limit.bytes bytes

-- the limit as a number of 64 bits, of which none is greater than the largest
abbrev pub most_of_limit : Option ℕ → ℕ
most_of_limit None = 2 ^ 64 - 1
most_of_limit (Some most) = most
