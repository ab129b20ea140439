-- For `with_digit`.
use Rattle.jp_decimal.proofs.Runs.{no-digit, one-digit, one-zero}
use Rattle.jp_decimal.proofs.digits.with_digit.Goals as goal

pub returns-then-digit-eq0 : goal.returns-then-digit-eq0
returns-then-digit-eq0 c = one-zero c.args.run c.args.digit c.requires.run c.if-digit-eq0.true

pub returns-in_err-size : goal.returns-in_err-size
returns-in_err-size c =
    rw c.from_residual.ensures (no-digit c.args.run c.args.digit c.if-digit-eq0.false c.requires.digit c.in_err-size.ensures)

pub returns : goal.returns
returns c =
    one-digit c.args.run c.args.digit c.in_ok-size.size c.if-digit-eq0.false c.requires.digit
    c.in_ok-size.ensures.1 c.in_ok-size.ensures.0
