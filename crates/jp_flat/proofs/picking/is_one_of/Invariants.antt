use Rattle.std.proofs.Common.{◌≡◌, ◌≤◌, ◌-◌, drop, length}
use Rattle.jp_flat.specs.Asked.{is_listed}
use Rattle.jp_flat.proofs.picking.is_one_of.Given as goal

abbrev pub invariant-names : goal.invariant-names
invariant-names l = record {
  within : l.at ≤ length l.names;
  none : is_listed l.names l.bytes ≡ is_listed (drop l.at l.names) l.bytes;
}

abbrev pub decreases-names : goal.decreases-names
decreases-names l = length l.names - l.at
