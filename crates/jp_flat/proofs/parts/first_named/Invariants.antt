use Rattle.std.proofs.Common.{◌≡◌, ◌≤◌, ◌<◌, ◌-◌, ℕ, false, get_or, length}
use Rattle.jp_flat.specs.Flat.{shown}
use Rattle.jp_flat.specs.Private.Parts.{is_named}
use Rattle.jp_flat.specs.declared.item.Named.{Named}
use Rattle.jp_flat.proofs.parts.first_named.Given as goal

abbrev pub invariant-members : goal.invariant-members
invariant-members l = record {
  within : l.at ≤ length l.members;
  none : (i : ℕ) (m : Named) → i < l.at → is_named (shown l.tables) l.name (get_or l.members i m) ≡ false;
}

abbrev pub decreases-members : goal.decreases-members
decreases-members l = length l.members - l.at
