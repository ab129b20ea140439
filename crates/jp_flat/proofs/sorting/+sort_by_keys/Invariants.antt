use Rattle.std.proofs.Common.{take}
use Rattle.jp_flat.specs.Flat.{shown}
use Rattle.jp_flat.proofs.ByKeys.{AreAppended}
use Rattle.jp_flat.proofs.sorting.+sort_by_keys.Given as goal

abbrev pub decreases-sort_by_keys : goal.decreases-sort_by_keys
decreases-sort_by_keys l = l.again

abbrev pub invariant-loop-index : goal.invariant-loop-index
invariant-loop-index l =
    AreAppended (shown l.tables) l.base l.first (take l.index l.sorted.items) l.fn.members.items
    l.members.items
