-- Digits as a number that does not end in 0, and zeros behind it.
use Rattle.std.specs.Prelude.{ℕ, ◌≡◌, ◌≢◌, ◌*◌, ◌%◌, ◌^◌, ◌<◌, ◌≤◌}
use Rattle.jp_decimal.specs.declared.digits.Run.{Run}

-- the number that the digits write
abbrev pub run_value : Run → ℕ
run_value r = r.size * 10 ^ r.zeros

-- it has at most 38 digits, of which the last is not 0
pub record IsRun (r : Run) : Type 0 where
  pub short : r.size < 10 ^ 38
  pub ends : r.size ≢ 0 → r.size % 10 ≢ 0

-- v has more than 38 digits, even where zeros at its end do not count
abbrev pub IsLong : ℕ → Type 0
IsLong v = (c z : ℕ) → c * 10 ^ z ≡ v → 10 ^ 38 ≤ c
