use Rattle.std.proofs.Common.{◌≤◌, ◌<◌, ◌-◌, length}
use Rattle.jp_flat.specs.Flat.{shown}
use Rattle.jp_flat.proofs.Searched.{Halved, order_of}
use Rattle.jp_flat.proofs.sorting.search.Given as goal

abbrev pub invariant-halves : goal.invariant-halves
invariant-halves l = record {
  order : l.low ≤ l.high;
  within : l.high ≤ length l.members;
  next : l.low < l.high → (l.low ≤ l.next) × (l.next < l.high);
  halved : Halved (order_of (shown l.tables) l.name) l.members l.low l.high;
}

abbrev pub decreases-halves : goal.decreases-halves
decreases-halves l = l.high - l.low
