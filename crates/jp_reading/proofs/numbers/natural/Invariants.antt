use Rattle.std.proofs.Common.{◌≡◌, length}
use Rattle.jp_reading.specs.Outcome.{each}
use Rattle.jp_reading.specs.NumberReading.{is_at_digit, digit_at, digits_at, capped}
use Rattle.jp_reading.specs.Views.{outcome_map}
use Rattle.jp_reading.proofs.numbers.natural.Given as goal

abbrev pub invariant-digits : goal.invariant-digits
invariant-digits l =
    outcome_map (capped l.fn.cap 0) (digits_at l.fn.reader) ≡ outcome_map (capped l.fn.cap l.number)
    (each is_at_digit digit_at l.reader)

abbrev pub decreases-digits : goal.decreases-digits
decreases-digits l = length l.reader.rest
