-- For `long_run`.
use Rattle.std.proofs.Common.{◌∙◌, ap, arith, subst, sym}
use Rattle.std.specs.Str.Parse.{digits_value, digits_value_after}
use Rattle.jp_decimal.specs.Private.Runs.{IsLong}
use Rattle.jp_decimal.proofs.Runs.{after-append, all-first, all-second, long-stays}
use Rattle.jp_decimal.proofs.digits.long_run.Goals as goal

pub with_digits-requires-clause-digits : goal.with_digits-requires-clause-digits
with_digits-requires-clause-digits c = all-first c.args.whole.now c.args.fraction.now c.requires.digits

pub with_digits-requires-2-clause-digits : goal.with_digits-requires-2-clause-digits
with_digits-requires-2-clause-digits c = all-second c.args.whole.now c.args.fraction.now c.requires.digits

pub returns-in_err-front : goal.returns-in_err-front
returns-in_err-front c =
    rw c.from_residual.ensures
    (subst (λ v. IsLong v) (sym (after-append 0 c.args.whole.now c.args.fraction.now))
    (long-stays (digits_value 10 c.args.whole.now) c.args.fraction.now (all-second c.args.whole.now c.args.fraction.now c.requires.digits) c.in_err-front.ensures))

pub returns-in_err-both : goal.returns-in_err-both
returns-in_err-both c =
    rw c.from_residual-in_err-both.ensures
    (subst (λ v. IsLong v)
    (ap (λ v. digits_value_after 10 v c.args.fraction.now) c.in_ok-front.ensures.1
    ∙ sym (after-append 0 c.args.whole.now c.args.fraction.now)) c.in_err-both.ensures)

pub returns : goal.returns
returns c = (
  c.in_ok-both.ensures.0,
  c.in_ok-both.ensures.1
      ∙ (ap (λ v. digits_value_after 10 v c.args.fraction.now) c.in_ok-front.ensures.1
      ∙ sym (after-append 0 c.args.whole.now c.args.fraction.now)),
  omega (arith, c.in_ok-both.ensures.2, c.in_ok-front.ensures.2, c.requires.room),
)
