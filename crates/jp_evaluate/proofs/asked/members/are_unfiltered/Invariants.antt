use Rattle.std.proofs.Common.{◌≡◌, drop, map}
use Rattle.jp_tree.specs.Tree.{selectors}
use Rattle.jp_tree.specs.Views.{selector_of}
use Rattle.jp_evaluate.specs.Private.Asks.{are_unfiltered}
use Rattle.jp_evaluate.proofs.asked.members.are_unfiltered.Given as goal

-- the selectors so far are plain
abbrev pub invariant-loop-selector : goal.invariant-loop-selector
invariant-loop-selector l =
    are_unfiltered (selectors (map selector_of (drop l.selector-index l.selectors)))
    ≡ are_unfiltered (selectors (map selector_of l.selectors))
