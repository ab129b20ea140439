-- The count of class tests.
use Rattle.std.specs.Prelude.{◌≡◌, ◌⊎◌, ℕ, zero, suc, ◌+◌, ◌-◌, ◌^◌, ◌≤◌, min}

-- the count once so many tests more are made; the greatest u64 also stands for more
abbrev pub count_after : ℕ → ℕ → ℕ
count_after zero made = made
count_after (suc more) made = min (count_after more made + 1) (2 ^ 64 - 1)

-- so many tests are made
pub record Makes (made before after : ℕ) : Type 0 where
  pub counted : after ≡ count_after made before
  pub kept : before ≤ after

-- no test is made, or so many more still fit in a budget
pub record LeavesRoom (room budget before after : ℕ) : Type 0 where
  pub left : (after ≤ before) ⊎ (after + room ≤ budget)
  pub kept : before ≤ after
