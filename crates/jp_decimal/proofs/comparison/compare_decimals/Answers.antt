-- For `compare_decimals`.
use Rattle.std.proofs.Common.{◌-ℤ◌, ◌≤ℤ◌, ◌<ℤ◌, pos, ◌^◌, arith, rules}
use Rattle.std.proofs.lemmas.Int.{ints, to_z-of_z}
use Rattle.jp_decimal.specs.Scaled.{from_zero}
use Rattle.jp_decimal.proofs.Powers.{tens-pos}
use Rattle.jp_decimal.proofs.Order.{signs-apart, sizes-from-zero}
use Rattle.jp_decimal.proofs.comparison.compare_decimals.Goals as goal

pub returns-else-b-lt0 : goal.returns-else-b-lt0
returns-else-b-lt0 c =
    let x : c.args.a.coefficient <ℤ pos 0 = omega (arith, ints, c.if-a-lt0.true) in
    let y : pos 0 ≤ℤ c.args.b.coefficient = omega (arith, ints, c.if-b-lt0.false) in
    (signs-apart c.args.a.coefficient c.args.b.coefficient
    (10 ^ from_zero (c.args.a.exponent -ℤ c.args.b.exponent)) (10 ^ from_zero (c.args.b.exponent -ℤ c.args.a.exponent)) x y
    (tens-pos _) (tens-pos _)).0

pub returns-then-b-lt0-2 : goal.returns-then-b-lt0-2
returns-then-b-lt0-2 c =
    let x : c.args.b.coefficient <ℤ pos 0 = omega (arith, ints, c.if-b-lt0-2.true) in
    let y : pos 0 ≤ℤ c.args.a.coefficient = omega (arith, ints, c.if-a-lt0.false) in
    (signs-apart c.args.b.coefficient c.args.a.coefficient
    (10 ^ from_zero (c.args.b.exponent -ℤ c.args.a.exponent)) (10 ^ from_zero (c.args.a.exponent -ℤ c.args.b.exponent)) x y
    (tens-pos _) (tens-pos _)).1

pub returns-else-b-lt0-2 : goal.returns-else-b-lt0-2
returns-else-b-lt0-2 c =
    let x : pos 0 ≤ℤ c.args.a.coefficient = omega (arith, ints, c.if-a-lt0.false) in
    let y : pos 0 ≤ℤ c.args.b.coefficient = omega (arith, ints, c.if-b-lt0-2.false) in
    search (rules, to_z-of_z, sizes-from-zero, x, y)
