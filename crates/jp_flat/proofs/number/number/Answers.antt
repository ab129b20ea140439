use Rattle.std.proofs.Common.{◌≡◌, ◌==◌, ◌^◌, ◌<◌, ◌≤◌, false, length, slice_index, arith}
use Rattle.jp_flat.proofs.Leaves.{digits_item}
use Rattle.jp_flat.proofs.number.number.Goals as goal

pub returns-then-not-has_minus : goal.returns-then-not-has_minus
returns-then-not-has_minus c =
    let s = c.args.bytes.now in
    let n = c.args.size in
    let bare : (slice_index s 0 == 45) ≡ false = grind arith in
    let few : length s ≤ 18 = grind arith in
    let fits : n < 2 ^ 64 = grind arith in
    let so = c.requires bare in
    digits_item s n c.halves.result so.0 so.1.digits (so.1.value few) fits c.halves.ensures
