-- For `whole_64`.
use Rattle.std.proofs.Common.{◌≤ℤ◌, pos, arith}
use Rattle.std.proofs.lemmas.Int.{ints}
use Rattle.jp_decimal.proofs.OutOfRange.{far-apart, large-apart}
use Rattle.jp_decimal.proofs.normal_form.whole_64.Goals as goal

pub returns-then-exponent-gt19 : goal.returns-then-exponent-gt19
returns-then-exponent-gt19 c =
    far-apart c.args.negative c.args.size c.args.exponent c.requires (omega (arith, ints, c.if-exponent-gt19.true))

pub returns-then-size : goal.returns-then-size
returns-then-size c =
    let from : pos 0 ≤ℤ c.args.exponent = omega (arith, ints, c.if-exponent-lt0.false) in
    large-apart c.args.negative c.args.size c.args.exponent from c.if-size.true
