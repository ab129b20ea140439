use Rattle.std.proofs.Common.{sym, ◌∙◌, ◌+◌, ◌++◌}
use Rattle.jp_reading.specs.Numbers.{is_digit}
use Rattle.jp_reading.specs.Outcome.{passes, head, take_if}
use Rattle.jp_reading.proofs.States.Progress.{moves-take_if, moved}
use Rattle.jp_reading.proofs.States.Folds.{pushes_on, pushes_end, folds_fail}
use Rattle.jp_query.proofs.Readers.Exits.{err_is}
use Rattle.jp_query.proofs.numbers.more_digits.Goals as goal

pub returns-in_err-next : goal.returns-in_err-next
returns-in_err-next c =
    let text = c.digits.longer.items in
    rw (err_is c.from_residual.result c.from_residual.ensures.1, ← c.digits.invariant)
    (folds_fail (λ q. passes is_digit (head q)) (take_if is_digit) (moves-take_if is_digit)
    (λ ys. text ++ ys)
    c.digits.reader c.in_err-next.field-0.0
    (sym c.is_at_digit.ensures ∙ c.digits-test.true) c.in_err-next.ensures.taken)

pub digits-smaller : goal.digits-smaller
digits-smaller c =
    moved (take_if is_digit) (moves-take_if is_digit) c.digits.reader c.digit.new.reader
    (48 + c.in_ok-next.next) c.in_ok-next.ensures.taken

pub digits-preserved : goal.digits-preserved
digits-preserved c =
    rw (
      c.in_ok-append.ensures,
      ← pushes_on (λ q. passes is_digit (head q)) (take_if is_digit) (moves-take_if is_digit)
          c.digits.longer.items c.digits.reader c.digit.new.reader (48 + c.in_ok-next.next)
          (sym c.is_at_digit.ensures ∙ c.digits-test.true) c.in_ok-next.ensures.taken,
    )
    c.digits.invariant

pub returns : goal.returns
returns c =
    sym c.digits.invariant
    ∙ pushes_end (λ q. passes is_digit (head q)) (take_if is_digit) c.digits.longer.items
    c.digits.reader (sym c.is_at_digit.ensures ∙ c.digits-test.false)
