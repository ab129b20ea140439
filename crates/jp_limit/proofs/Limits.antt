-- What a limit as a number of 64 bits tells of the limit.
use Rattle.std.proofs.Common.{◌≡◌, ◌<◌, ◌≤◌, ◌+◌, ◌-◌, ◌^◌, ℕ, Option, Some, None, arith, min}
use Rattle.jp_limit.specs.OutputLimit.{Exceeds, KeepsTo, most_of_limit}

pub keeps : (l : Option ℕ) (m n : ℕ) → m ≡ most_of_limit l → n ≤ m → KeepsTo l n
keeps None m n is less = tt
keeps (Some k) m n is less = omega (arith, is, less)

-- where a number of 64 bits is greater, so is what is no less than that number
pub exceeds : (l : Option ℕ) (m k n : ℕ) → m ≡ most_of_limit l → m < k → k < 2 ^ 64 → k ≤ n
    → Exceeds l n
exceeds None m k n is more fits less = absurd (omega (arith, is, more, fits))
exceeds (Some j) m k n is more fits less = omega (arith, is, more, less)

-- the same of what is behind so many, where all is counted from there on
pub keeps-behind : (l : Option ℕ) (m from n end : ℕ) → m ≡ most_of_limit l
    → end ≡ min (from + m) (2 ^ 64 - 1) → from + n ≤ end → KeepsTo l n
keeps-behind None m from n end is at less = tt
keeps-behind (Some k) m from n end is at less = omega (arith, is, at, less)

pub exceeds-behind : (l : Option ℕ) (m from k n end : ℕ) → m ≡ most_of_limit l
    → end ≡ min (from + m) (2 ^ 64 - 1) → end < k → k < 2 ^ 64 → k ≤ from + n → Exceeds l n
exceeds-behind None m from k n end is at more fits less = absurd (omega (arith, is, at, more, fits))
exceeds-behind (Some j) m from k n end is at more fits less = omega (arith, is, at, more, fits, less)
