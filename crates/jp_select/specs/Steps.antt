-- The steps that an evaluation makes, by the count of those that are left.
use Rattle.std.specs.Prelude.{◌≡◌, ◌+◌, ◌-◌, ◌^◌, ◌≤◌, ℕ, true, Option, Some, length, min}
use Rattle.jp_document.specs.Value.{Value, text}
use Rattle.jp_select.specs.declared.steps.Steps.{Steps}

-- steps are only taken, and whether they are limited stays
pub record Takes (before after : Steps) : Type 0 where
  pub fewer : after.left ≤ before.left
  pub same : after.limited ≡ before.limited

-- at least so many were taken, if they are limited
pub record Counts (n : ℕ) (before after : Steps) : Type 0 where
  pub many : before.limited ≡ true → after.left + n ≤ before.left

-- they are limited, and all were made
pub record IsSpent (s : Steps) : Type 0 where
  pub limited : s.limited ≡ true
  pub none : s.left ≡ 0

-- the steps of comparing two sides, but for what is in them: one, and one for each byte of the
-- shorter of two texts
abbrev pub steps_of_two : Option Value → Option Value → ℕ
steps_of_two (Some (text s)) (Some (text t)) = min (min (length s) (length t) + 1) (2 ^ 64 - 1)
steps_of_two _ _ = 1
