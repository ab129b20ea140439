-- For `run_of`.
use Rattle.std.proofs.Common.{◌<◌, ◌≤◌, ◌^◌, ◌++◌, ap, arith, length, length-append}
use Rattle.std.specs.Str.Parse.{digits_value}
use Rattle.std.proofs.lemmas.Int.Digits.{digits_value-lt}
use Rattle.jp_decimal.proofs.Powers.{tens-le}
use Rattle.jp_decimal.proofs.digits.run_of.Goals as goal

pub returns-then-whole-fraction-le19 : goal.returns-then-whole-fraction-le19
returns-then-whole-fraction-le19 c =
    let ds = c.args.numeral.now.whole ++ c.args.numeral.now.fraction in
    let few : length ds ≤ 19 =
    omega (
      arith,
      length-append c.args.numeral.now.whole c.args.numeral.now.fraction,
      ap length c.whole-whole.ensures.value,
      ap length c.fraction-fraction.ensures,
      c.if-whole-fraction-le19.true,
    ) in
    let low : digits_value 10 ds < 10 ^ length ds = digits_value-lt 10 ds c.whole-whole.ensures.digits in
    let most : 10 ^ length ds ≤ 10 ^ 19 = tens-le (length ds) 19 few in (
      c.stripped-run.ensures.run,
      omega (arith, c.stripped-run.ensures.value, c.wrapped_digits.ensures, low, most),
      omega (arith, c.stripped-run.ensures.few),
    )
