-- For `stripped`.
use Rattle.std.proofs.Common.{◌≡◌, ◌+◌, ◌/◌, ◌<◌, ◌*◌, ◌^◌, arith}
use Rattle.jp_decimal.proofs.Powers.{few-zeros}
use Rattle.jp_decimal.proofs.Runs.{strip}
use Rattle.jp_decimal.proofs.digits.stripped.Goals as goal

pub overflow_add-zeros : goal.overflow_add-zeros
overflow_add-zeros c =
    omega (arith, few-zeros c.zeros.size c.zeros.zeros c.zeros.invariant.some (omega (arith, c.zeros.invariant.value, c.ranges.number)))

pub zeros-preserved : goal.zeros-preserved
zeros-preserved c =
    let s : (0 < c.zeros.size / 10) × (c.zeros.size / 10 * 10 ^ (c.zeros.zeros + 1) ≡ c.args.number) =
    strip c.zeros.size c.zeros.zeros c.args.number c.zeros.invariant.some c.zeros.invariant.value c.zeros-test.true in
    record { some = s.0; value = s.1 }

pub returns-clause-few : goal.returns-clause-few
returns-clause-few c =
    few-zeros c.zeros.size c.zeros.zeros c.zeros.invariant.some (omega (arith, c.zeros.invariant.value, c.ranges.number))
