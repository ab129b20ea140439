use Rattle.std.proofs.Common.{take}
use Rattle.jp_flat.specs.Flat.{shown}
use Rattle.jp_flat.specs.Private.Sorting.{PutsAll}
use Rattle.jp_flat.proofs.sorting.put_each.Given as goal

abbrev pub invariant-loop-member : goal.invariant-loop-member
invariant-loop-member l =
    PutsAll (shown l.tables) (take l.member-index l.members) l.found.items
