-- For `with_digits`.
use Rattle.std.proofs.Common.{◌+◌, ◌∙◌, ap, arith, drop}
use Rattle.std.specs.Str.Parse.{digits_value_after}
use Rattle.jp_decimal.specs.Private.Runs.{run_value}
use Rattle.jp_decimal.proofs.Runs.{after-code, code-value, long-on}
use Rattle.jp_decimal.proofs.digits.with_digits.Goals as goal

pub overflow_sub-digit : goal.overflow_sub-digit
overflow_sub-digit c = (code-value c.args.digits.now c.loop-digit.digit-index c.requires.digits c.loop-digit-test.true).0

pub with_digit-requires-clause-digit : goal.with_digit-requires-clause-digit
with_digit-requires-clause-digit c =
    omega (arith, code-value c.args.digits.now c.loop-digit.digit-index c.requires.digits c.loop-digit-test.true)

pub returns-in_err-longer : goal.returns-in_err-longer
returns-in_err-longer c =
    rw c.from_residual.ensures
    (long-on (run_value c.loop-digit.longer) c.loop-digit.digit-index _ c.args.digits.now c.requires.digits
    c.loop-digit-test.true c.loop-digit.invariant.value c.in_err-longer.ensures)

pub loop-digit-preserved : goal.loop-digit-preserved
loop-digit-preserved c = record {
  run = c.in_ok-longer.ensures.0;
  value =
      ap (λ v. digits_value_after 10 v (drop (c.loop-digit.digit-index + 1) c.args.digits.now)) c.in_ok-longer.ensures.1
      ∙ (after-code (run_value c.loop-digit.longer) c.loop-digit.digit-index c.args.digits.now c.requires.digits
      c.loop-digit-test.true ∙ c.loop-digit.invariant.value);
  zeros = omega (arith, c.in_ok-longer.ensures.2, c.loop-digit.invariant.zeros);
}
