-- For `stripped`.
use Rattle.std.proofs.Common.{◌≡◌, ◌*◌, ◌^◌, ◌<◌}
use Rattle.jp_decimal.proofs.digits.stripped.Given as goal

abbrev pub invariant-zeros : goal.invariant-zeros
invariant-zeros l = record {
  some : 0 < l.size;
  value : l.size * 10 ^ l.zeros ≡ l.fn.number;
}

abbrev pub decreases-zeros : goal.decreases-zeros
decreases-zeros l = l.size
