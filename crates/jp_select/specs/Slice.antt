-- Array slices (RFC 9535 section 2.3.4.2). An omitted bound is None.
use Rattle.std.specs.Prelude.{ℕ, zero, suc, ◌%◌, nat_eq, ℤ, pos, negsuc, ◌+ℤ◌}
use Rattle.std.specs.Prelude.{◌-ℤ◌, int_lt, int_le, unsigned_abs, Bool, ◌&&◌}
use Rattle.std.specs.Prelude.{List, [], reverse, filter, Option, unwrap_or}
use Rattle.std.specs.Int.{int_max, int_min}
use Rattle.std.specs.List.{range_with_len}

-- a negative number counts from the end of n items (Normalize)
abbrev pub normalized : ℕ → ℤ → ℤ
normalized n (pos i) = pos i
normalized n (negsuc i) = pos n +ℤ negsuc i

-- MIN(MAX(i, least), most)
abbrev pub held_within : ℤ → ℤ → ℤ → ℤ
held_within least most i = int_min (int_max i least) most

-- the bounds of a slice of n items whose step is positive (Bounds): an omitted start is 0, an
-- omitted end is n
abbrev pub rising_lower : ℕ → Option ℤ → ℤ
rising_lower n start = held_within (pos 0) (pos n) (normalized n (unwrap_or start (pos 0)))

abbrev pub rising_upper : ℕ → Option ℤ → ℤ
rising_upper n end = held_within (pos 0) (pos n) (normalized n (unwrap_or end (pos n)))

-- those of one whose step is negative: an omitted start is n - 1, an omitted end is -n - 1
abbrev pub falling_upper : ℕ → Option ℤ → ℤ
falling_upper n start =
    held_within (negsuc 0) (pos n -ℤ pos 1) (normalized n (unwrap_or start (pos n -ℤ pos 1)))

abbrev pub falling_lower : ℕ → Option ℤ → ℤ
falling_lower n end =
    held_within (negsuc 0) (pos n -ℤ pos 1) (normalized n (unwrap_or end (negsuc n)))

-- the size of a step divides a distance
abbrev pub divides : ℕ → ℤ → Bool
divides size distance = nat_eq (unsigned_abs distance % size) 0

-- i is at or above the lower bound and below the upper one, some steps above the lower one
abbrev pub is_rising : ℤ → ℤ → ℕ → ℕ → Bool
is_rising lower upper size i =
    int_le lower (pos i) && int_lt (pos i) upper && divides size (pos i -ℤ lower)

-- i is above the lower bound and at or below the upper one, some steps below the upper one
abbrev pub is_falling : ℤ → ℤ → ℕ → ℕ → Bool
is_falling lower upper size i =
    int_lt lower (pos i) && int_le (pos i) upper && divides size (upper -ℤ pos i)

-- the indexes of n items
abbrev pub indexes : ℕ → List ℕ
indexes n = range_with_len 0 n

-- the indexes that a slice of n items selects, in its order: upwards by a positive step, downwards
-- by a negative one, none by step 0
abbrev pub slice_of : ℕ → Option ℤ → Option ℤ → ℤ → List ℕ
slice_of n start end (pos zero) = []
slice_of n start end (pos (suc k)) =
    filter (is_rising (rising_lower n start) (rising_upper n end) (suc k)) (indexes n)
slice_of n start end (negsuc k) =
    reverse (filter (is_falling (falling_lower n end) (falling_upper n start) (suc k)) (indexes n))
