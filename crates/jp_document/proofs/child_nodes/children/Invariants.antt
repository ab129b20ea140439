use Rattle.std.proofs.Common.{◌≡◌, ◌-◌, length, map, take}
use Rattle.jp_document.specs.Node.{children, node_of}
use Rattle.jp_document.proofs.child_nodes.children.Given as goal

-- the nodes so far are the first children
abbrev pub invariant-loop-step : goal.invariant-loop-step
invariant-loop-step l =
    map node_of l.nodes.items ≡ take (length l.nodes.items) (children (node_of l.node))

abbrev pub decreases-loop-step : goal.decreases-loop-step
decreases-loop-step l = length (children (node_of l.node)) - length l.nodes.items
