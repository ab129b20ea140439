-- For `number_read`.
use Rattle.std.proofs.Common.{◌+◌, ◌-◌, ◌<◌, ◌≤◌, ◌^◌, length, drop, take, arith, length-drop}
use Rattle.std.proofs.Common.{rules}
use Rattle.std.proofs.lemmas.List.{length-take-le}
use Rattle.fast_float.proofs.Reading.{scan_numeral-digits_fit}
use Rattle.jp_decimal.proofs.reading.number_read.Goals as goal

pub number_from-requires : goal.number_from-requires
number_from-requires c =
    let room : length c.args.bytes.now < 2 ^ 63 = search rules in
    let fits : length c.scan.result.whole + length c.scan.result.fraction ≤ c.scan.result.len =
    rw c.scan.ensures.parts (scan_numeral-digits_fit (take (length c.args.bytes.now - 1) (drop 1 c.args.bytes.now))) in
    let long : length (take (length c.args.bytes.now - 1) (drop 1 c.args.bytes.now)) ≤ length c.args.bytes.now =
    omega (arith, length-drop 1 c.args.bytes.now, length-take-le (length c.args.bytes.now - 1) (drop 1 c.args.bytes.now) (omega (arith, length-drop 1 c.args.bytes.now))) in
    omega (arith, room, fits, long, c.scan.ensures.within)

pub number_from-requires-else-has_minus : goal.number_from-requires-else-has_minus
number_from-requires-else-has_minus c =
    let room : length c.args.bytes.now < 2 ^ 63 = search rules in
    let fits : length c.scan-else-has_minus.result.whole + length c.scan-else-has_minus.result.fraction ≤ c.scan-else-has_minus.result.len =
    rw c.scan-else-has_minus.ensures.parts (scan_numeral-digits_fit c.args.bytes.now) in
    omega (arith, room, fits, c.scan-else-has_minus.ensures.within)
