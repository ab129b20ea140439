-- Marks of copies of one position, each of which may be left out, or none.
use Rattle.std.specs.Prelude.{◌≡◌, ◌↔◌, ◌⊎◌, ℕ, zero, suc, ◌≤◌, ◌<◌, Bool, IsTrue, false, ◌||◌, ◌&&◌}
use Rattle.std.specs.Prelude.{List, length, get_or}

-- a copy is entered: the first where all are, and one more where the one before has a mark, or is
-- entered and may be left out
abbrev pub enters : Bool → Bool → List Bool → ℕ → Bool
enters optional entered marks zero = entered
enters optional entered marks (suc k) = get_or marks k false || (optional && enters optional entered marks k)

-- copies take a character where they are entered and their class holds it
pub record AreMoved (optional entered holds : Bool) (before after : List Bool) : Type 0 where
  pub same_length : length after ≡ length before
  pub each : (k : ℕ) → k < length before
      → get_or after k false ≡ (enters optional entered before k && holds)

-- a mark reaches the end: there may be so many copies, and none is wanted after the one that is
-- marked
pub record IsEndMarked (optional : Bool) (least count : ℕ) (marks : List Bool) : Type 0 where
  pub copy : ℕ
  pub within : copy < count
  pub marked : IsTrue (get_or marks copy false)
  pub may : least ≤ count
  pub enough : IsTrue optional ⊎ (least ≤ suc copy)

-- they have the empty word
pub record IsNoneEnough (optional : Bool) (least count : ℕ) : Type 0 where
  pub may : least ≤ count
  pub enough : IsTrue optional ⊎ (least ≡ 0)

-- the marks have moved; told is whether the end was reached before, and whether it is reached after,
-- where the copies are not entered and where they are
pub record AreStepped (optional entered holds : Bool) (least : ℕ) (before after : List Bool)
    (was is is_too : Bool) : Type 0 where
  pub moved : AreMoved optional entered holds before after
  pub was_so : IsTrue was ↔ (IsEndMarked optional least (length before) before ⊎ (IsTrue entered ×
      IsNoneEnough optional least (length before)))
  pub is_so : IsTrue is ↔ IsEndMarked optional least (length before) after
  pub is_too_so : IsTrue is_too ↔ (IsEndMarked optional least (length before) after ⊎
      IsNoneEnough optional least (length before))
