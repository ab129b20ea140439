use Rattle.jp_flat.specs.Flat.{shown}
use Rattle.jp_flat.proofs.Sunk.{HasSunk}
use Rattle.jp_flat.proofs.sinking.sinks.Given as goal

abbrev pub invariant-places : goal.invariant-places
invariant-places l =
    HasSunk (shown l.tables) l.place l.index l.name l.initial.members l.members

abbrev pub decreases-places : goal.decreases-places
decreases-places l = l.place
