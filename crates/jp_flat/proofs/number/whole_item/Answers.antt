use Rattle.std.proofs.Common.{◌≡◌, ◌-ℤ◌, negsuc, pos, arith, rules}
use Rattle.jp_flat.proofs.Leaves.{above_is, below_is}
use Rattle.jp_flat.proofs.number.whole_item.Goals as goal

pub returns-in_ok-below : goal.returns-in_ok-below
returns-in_ok-below c =
    let same : pos c.in_ok-below.below ≡ negsuc 0 -ℤ c.args.number = search rules in
    below_is c.args.number c.halves.result (grind (arith, c.if-number-lt0.true, c.halves.ensures, same))

pub returns-in_ok-above : goal.returns-in_ok-above
returns-in_ok-above c =
    let same : pos c.in_ok-above.above ≡ c.args.number = search rules in
    above_is c.args.number c.halves-else-number-lt0.result
    (grind (arith, c.halves-else-number-lt0.ensures, same))
