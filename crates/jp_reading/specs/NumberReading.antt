-- How digits, and the numbers that they write, are read.
use Rattle.std.specs.Prelude.{ℕ, ◌+◌, ◌-◌, ◌*◌, min, Bool, [], ◌∷◌}
use Rattle.jp_reading.specs.Characters.{digit_zero}
use Rattle.jp_reading.specs.Texts.{Text}
use Rattle.jp_reading.specs.Numbers.{is_digit}
use Rattle.jp_reading.specs.Outcome.{State, Outcome, took, ◌>>=◌, head, passes, take_if, each}

-- whether the next character is a digit
abbrev pub is_at_digit : State → Bool
is_at_digit p = passes is_digit (head p)

-- takes a digit
abbrev pub digit_at : State → Outcome ℕ
digit_at p = take_if is_digit p

-- takes a digit and all that follow it
unfoldable pub digits_at : State → Outcome Text
digits_at p = digit_at p >>= λ d q. each is_at_digit digit_at q >>= λ ds r. took (d ∷ ds) r

-- the number that the digits write, or the cap where it is larger
abbrev pub capped : ℕ → ℕ → Text → ℕ
capped cap n [] = n
capped cap n (d ∷ ds) = capped cap (min (n * 10 + (d - digit_zero)) cap) ds
