use Rattle.std.proofs.Common.{map}
use Rattle.jp_tree.specs.Tree.{selectors}
use Rattle.jp_tree.specs.Views.{selector_of}
use Rattle.jp_evaluate.specs.Private.Asks.{asks_selectors}
use Rattle.jp_evaluate.proofs.Kept.Told.{GoesOn}
use Rattle.jp_evaluate.proofs.asked.push_selectors.Given as goal

-- what the selectors so far ask for was told
abbrev pub invariant-loop-selector : goal.invariant-loop-selector
invariant-loop-selector l =
    GoesOn l.fn.names.items l.names.items
    (λ p ss. asks_selectors p (selectors (map selector_of ss))) l.selectors l.selector-index
