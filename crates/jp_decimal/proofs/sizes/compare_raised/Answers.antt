-- For `compare_raised`.
use Rattle.std.proofs.Common.{◌*◌, ◌^◌, ◌<◌, ◌≤◌, arith}
use Rattle.jp_decimal.proofs.Powers.{tens-pos, tens-le, greater, above-quotient, above-tens}
use Rattle.jp_decimal.proofs.sizes.compare_raised.Goals as goal

pub returns-then-by-ge39 : goal.returns-then-by-ge39
returns-then-by-ge39 c =
    let h : 10 ^ 39 ≤ 10 ^ c.args.by = tens-le 39 c.args.by c.if-by-ge39.true in
    let fits : c.args.b < 2 ^ 128 = omega (arith, c.ranges.b) in
    greater (c.args.a * 10 ^ c.args.by) c.args.b
    (omega (arith, fits, h, above-tens c.args.a c.args.by c.if-a-eq0.false))

pub pow-power-requires : goal.pow-power-requires
pow-power-requires c =
    let h : 10 ^ c.args.by ≤ 10 ^ 38 = tens-le c.args.by 38 (omega (arith, c.if-by-ge39.false)) in
    omega (arith, h)

pub nonzero_div-part : goal.nonzero_div-part
nonzero_div-part c = omega (arith, c.pow-power.ensures, tens-pos c.args.by)

pub returns-then-a-part-2 : goal.returns-then-a-part-2
returns-then-a-part-2 c =
    greater (c.args.a * 10 ^ c.args.by) c.args.b
    (above-quotient c.args.a c.args.b c.pow-power.result (10 ^ c.args.by) (omega (arith, c.pow-power.ensures, tens-pos c.args.by))
    c.pow-power.ensures c.if-a-part-2.true)
