use Rattle.std.proofs.Common.{◌-◌, length}
use Rattle.jp_flat.proofs.Undone.{HasGone}
use Rattle.jp_flat.proofs.escapes.has_content.Given as goal

abbrev pub invariant-escapes : goal.invariant-escapes
invariant-escapes l = record {
  gone : HasGone l.bytes l.at;
}

abbrev pub decreases-escapes : goal.decreases-escapes
decreases-escapes l = length l.bytes - l.at
