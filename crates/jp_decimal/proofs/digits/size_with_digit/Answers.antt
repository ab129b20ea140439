-- For `size_with_digit`.
use Rattle.std.proofs.Common.{◌*◌, ◌+◌, ◌^◌, ◌≤◌, ap, arith}
use Rattle.jp_decimal.proofs.Powers.{above-tens, ingrown, outgrown, tens-le, tens-pos}
use Rattle.jp_decimal.proofs.digits.size_with_digit.Goals as goal

pub returns-then-by-ge38 : goal.returns-then-by-ge38
returns-then-by-ge38 c h =
    let low : 10 ^ 38 ≤ 10 ^ c.args.by = tens-le 38 c.args.by c.if-by-ge38.true in
    omega (arith, h, low, above-tens c.args.size c.args.by c.if-size-eq0.false)

pub pow-power-requires : goal.pow-power-requires
pow-power-requires c =
    let h : 10 ^ c.args.by ≤ 10 ^ 38 = tens-le c.args.by 38 (omega (arith, c.if-by-ge38.false)) in
    omega (arith, h)

pub nonzero_div-power : goal.nonzero_div-power
nonzero_div-power c = omega (arith, c.pow-power.ensures, tens-pos c.args.by)

pub returns-then-size-power : goal.returns-then-size-power
returns-then-size-power c h =
    let large : 10 ^ 38 ≤ c.args.size * 10 ^ c.args.by + c.args.digit =
    outgrown c.args.size c.args.by c.args.digit c.pow-power.result (omega (arith, c.if-by-ge38.false))
    c.pow-power.ensures c.if-size-power.true in
    omega (arith, h, large)

pub returns : goal.returns
returns c = (
  ingrown c.args.size c.args.by c.args.digit c.pow-power.result c.requires.some c.pow-power.ensures
      c.if-size-power.false c.requires.digit,
  omega (arith, ap (λ p. c.args.size * p) c.pow-power.ensures, c.from-2.ensures),
)
