use Rattle.std.proofs.Common.{◌≡◌, ◌+◌, ◌-◌, ◌*◌, ◌^◌, min, sym, ◌∙◌, ap, arith}
use Rattle.std.proofs.lemmas.Result.{err_from_is_err_and}
use Rattle.jp_reading.specs.Characters as char
use Rattle.jp_reading.specs.NumberReading.{capped, digit_at, is_at_digit}
use Rattle.jp_reading.proofs.Texts.Digits.{digit_at-progress, digits_at-first, digits_at-fails}
use Rattle.jp_reading.proofs.Texts.Digits.{capped-digit, saturated}
use Rattle.jp_reading.proofs.States.Folds.{folds_on, folds_end}
use Rattle.jp_reading.proofs.numbers.natural.Goals as goal

pub returns-in_err-digit-clause-taken : goal.returns-in_err-digit-clause-taken
returns-in_err-digit-clause-taken c =
    let p = err_from_is_err_and c.from_residual.result c.from_residual.ensures.1 in
    rw (p.1, p.2) (digits_at-fails (capped c.args.cap 0) c.args.reader.now c.in_err-digit.field-0.0
    c.in_err-digit.ensures.taken)

pub digits-init : goal.digits-init
digits-init c =
    digits_at-first (capped c.args.cap 0) (capped c.args.cap c.min-number.result) c.args.reader.now
    c.digit.new.reader
    (char.digit_zero + c.in_ok-digit.field-0) c.in_ok-digit.ensures.taken
    (λ ds. capped-digit c.args.cap 0 c.in_ok-digit.field-0 ds ∙ ap (λ n. capped c.args.cap n ds)
    (let e : min (0 * 10 + c.in_ok-digit.field-0) c.args.cap ≡ c.min-number.result =
    rw (c.min-number.ensures, c.from.ensures) (omega arith) in e))

pub digits-preserved : goal.digits-preserved
digits-preserved c =
    let next = c.in_ok-next.next in
    let more : min (c.digits.number * 10 + next) c.args.cap ≡ c.min-number-in-digits.result =
    sym (c.min-number-in-digits.ensures
    ∙ rw (c.saturating_add.ensures, c.saturating_mul.ensures, c.from-in-digits.ensures)
    (saturated c.digits.number next c.args.cap (2 ^ 128 - 1) (omega arith))) in
    c.digits.invariant
    ∙ folds_on is_at_digit digit_at digit_at-progress (capped c.args.cap c.digits.number)
    (capped c.args.cap c.min-number-in-digits.result)
    c.digits.reader c.digit-in-digits.new.reader (char.digit_zero + next)
    (sym c.is_at_digit.ensures ∙ c.digits-test.true) c.in_ok-next.ensures.taken
    (λ ds. capped-digit c.args.cap c.digits.number next ds ∙ ap (λ n. capped c.args.cap n ds) more)

pub returns-clause-taken : goal.returns-clause-taken
returns-clause-taken c =
    c.digits.invariant
    ∙ folds_end is_at_digit digit_at (capped c.args.cap c.digits.number) c.digits.reader
    (sym c.is_at_digit.ensures ∙ c.digits-test.false)
