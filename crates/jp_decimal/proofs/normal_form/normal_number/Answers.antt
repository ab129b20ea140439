-- For `normal_number`.
use Rattle.std.proofs.Common.{◌≡◌, ◌≢◌, ◌%◌, ◌<ℤ◌, ◌^◌, ◌-◌, subst, pos, negsuc, arith, inl, inr}
use Rattle.std.proofs.Common.{unsigned_abs, false}
use Rattle.std.proofs.lemmas.Int.{ints, to_z-of_z}
use Rattle.std.specs.Int.{w128}
use Rattle.jp_decimal.specs.Number.{is_whole_64}
use Rattle.fast_float.specs.Text.{with_sign}
use Rattle.jp_decimal.proofs.Same.{signed-size}
use Rattle.jp_decimal.proofs.OutOfRange.{far-out-of-range}
use Rattle.jp_decimal.proofs.normal_form.normal_number.Goals as goal

pub returns-then-exponent-ltminus1000000 : goal.returns-then-exponent-ltminus1000000
returns-then-exponent-ltminus1000000 c =
    let far : c.args.exponent <ℤ negsuc (10 ^ 6 - 1) = omega (arith, ints, c.if-exponent-ltminus1000000.true) in
    let ends : unsigned_abs (with_sign c.args.negative c.args.size) % 10 ≢ 0 = rw (signed-size c.args.negative c.args.size) c.requires.ends in
    let apart : is_whole_64 (with_sign c.args.negative c.args.size) c.args.exponent ≡ false =
    subst (λ e. is_whole_64 (with_sign c.args.negative c.args.size) e ≡ false)
    (to_z-of_z w128 c.args.exponent c.ranges.exponent) c.in_default.ensures in
    far-out-of-range (record { coefficient = with_sign c.args.negative c.args.size; exponent = c.args.exponent })
    ends apart (inl far)

pub returns-then-exponent-gt1000000 : goal.returns-then-exponent-gt1000000
returns-then-exponent-gt1000000 c =
    let far : pos (10 ^ 6) <ℤ c.args.exponent = omega (arith, ints, c.if-exponent-gt1000000.true) in
    let ends : unsigned_abs (with_sign c.args.negative c.args.size) % 10 ≢ 0 = rw (signed-size c.args.negative c.args.size) c.requires.ends in
    let apart : is_whole_64 (with_sign c.args.negative c.args.size) c.args.exponent ≡ false =
    subst (λ e. is_whole_64 (with_sign c.args.negative c.args.size) e ≡ false)
    (to_z-of_z w128 c.args.exponent c.ranges.exponent) c.in_default.ensures in
    far-out-of-range (record { coefficient = with_sign c.args.negative c.args.size; exponent = c.args.exponent })
    ends apart (inr far)
