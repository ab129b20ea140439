-- For `number_from`.
use Rattle.std.proofs.Common.{◌≡◌, ◌≤◌, ◌<◌, ◌^◌, ◌-◌, length, pos, negsuc, ◌+ℤ◌, ◌-ℤ◌, ◌≤ℤ◌, ◌∙◌}
use Rattle.std.proofs.Common.{ap, arith}
use Rattle.std.specs.Str.Parse.{digits_value}
use Rattle.fast_float.specs.Text.{digits_of, with_sign}
use Rattle.jp_decimal.specs.TextValue.{exponent_of}
use Rattle.jp_decimal.proofs.OutOfRange.{long-out-of-range}
use Rattle.jp_decimal.proofs.Moved.{answer-shifted, exponent-is, exponent-out-of-range}
use Rattle.jp_decimal.proofs.Moved.{signed-bounds}
use Rattle.jp_decimal.proofs.reading.number_from.Goals as goal

pub returns-in_err-run : goal.returns-in_err-run
returns-in_err-run c =
    rw c.from_residual.ensures
    (long-out-of-range c.args.negative (digits_of c.args.numeral.now) (exponent_of c.args.numeral.now) c.in_err-run.ensures)

pub returns-then-power : goal.returns-then-power
returns-then-power c =
    let large : 2 ^ 64 - 1 ≤ digits_value 10 c.args.numeral.now.exponent =
    omega (arith, c.if-power.true, c.saturated_exponent-power.ensures) in
    exponent-out-of-range c.args.negative c.args.numeral.now.exponent_negative c.in_ok-run.run'.size c.in_ok-run.run'.zeros
    (digits_value 10 c.args.numeral.now.exponent) (length c.args.numeral.now.fraction) (digits_of c.args.numeral.now)
    c.if-run-eq0.false (c.in_ok-run.ensures.0.ends c.if-run-eq0.false) c.in_ok-run.ensures.1 large
    c.in_ok-run.ensures.2 (omega (arith, c.requires))

pub returns : goal.returns
returns c =
    let small : c.from-2.result ≡ digits_value 10 c.args.numeral.now.exponent =
    omega (arith, c.from-2.ensures, c.if-power.false, c.saturated_exponent-power.ensures) in
    let sign : c.signed.result ≡ with_sign c.args.numeral.now.exponent_negative (digits_value 10 c.args.numeral.now.exponent) =
    c.signed.ensures ∙ (ap (λ b. with_sign b c.from-2.result) c.is_exponent_negative.ensures
    ∙ ap (with_sign c.args.numeral.now.exponent_negative) small) in
    let fits : c.from-2.result < 2 ^ 64 = omega (arith, c.from-2.ensures, c.saturated_exponent-power.type_inv) in
    let bounds : (negsuc (2 ^ 64) ≤ℤ c.signed.result) × (c.signed.result ≤ℤ pos (2 ^ 64)) =
    rw c.signed.ensures (signed-bounds c.is_exponent_negative.result c.from-2.result fits) in
    let room : length c.fraction.result.now < 2 ^ 63 = omega (arith, c.requires, ap length c.fraction.ensures) in
    answer-shifted c.args.negative c.in_ok-run.run'.size c.in_ok-run.run'.zeros (digits_of c.args.numeral.now)
    (exponent_of c.args.numeral.now) _ c.normal_number.result c.normal_number.ensures c.in_ok-run.ensures.1
    (exponent-is c.signed.result c.from.result (length c.fraction.result.now) c.in_ok-run.run'.zeros bounds.0 bounds.1
    c.from.ensures c.in_ok-run.ensures.2 room
    ∙ (ap (λ s. s -ℤ pos (length c.fraction.result.now) +ℤ pos c.in_ok-run.run'.zeros) sign
    ∙ ap (λ f. with_sign c.args.numeral.now.exponent_negative (digits_value 10 c.args.numeral.now.exponent) -ℤ pos (length f)
    +ℤ pos c.in_ok-run.run'.zeros) c.fraction.ensures))
