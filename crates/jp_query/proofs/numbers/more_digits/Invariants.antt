use Rattle.std.proofs.Common.{◌≡◌, length}
use Rattle.jp_reading.specs.Numbers.{is_digit}
use Rattle.jp_reading.specs.Views.{with_prefix}
use Rattle.jp_query.specs.Private.Rules.{run}
use Rattle.jp_query.specs.Private.Reading.{read_flat}
use Rattle.jp_query.proofs.numbers.more_digits.Given as goal

abbrev pub invariant-digits : goal.invariant-digits
invariant-digits l =
    with_prefix l.longer.items (read_flat (run is_digit) l.reader)
    ≡ with_prefix l.fn.text.items (read_flat (run is_digit) l.fn.reader)

abbrev pub decreases-digits : goal.decreases-digits
decreases-digits l = length l.reader.rest
