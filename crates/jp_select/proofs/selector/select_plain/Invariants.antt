use Rattle.std.proofs.Common.{◌≡◌, ◌-◌, ◌++◌, drop, length, map}
use Rattle.jp_document.specs.Node.{node_below, node_of}
use Rattle.jp_document.specs.Value.{value_of}
use Rattle.jp_tree.specs.Views.{selector_of}
use Rattle.jp_select.specs.Selectors.{candidates}
use Rattle.jp_select.proofs.selector.select_plain.Given as goal

-- the nodes so far, and the candidates to come
abbrev pub invariant-loop-step : goal.invariant-loop-step
invariant-loop-step l =
    map node_of l.nodes.items
    ++ map (node_below l.node.location)
    (drop (length l.nodes.items) (candidates (selector_of l.selector) (value_of l.node.value)))
    ≡ map (node_below l.node.location) (candidates (selector_of l.selector) (value_of l.node.value))

abbrev pub decreases-loop-step : goal.decreases-loop-step
decreases-loop-step l =
    length (candidates (selector_of l.selector) (value_of l.node.value)) - length l.nodes.items
