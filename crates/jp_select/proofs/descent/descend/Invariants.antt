use Rattle.std.proofs.Common.{◌≡◌, ◌++◌, false, map}
use Rattle.jp_document.specs.Node.{node_of}
use Rattle.jp_select.specs.Subtree.{subtree_of}
use Rattle.jp_select.specs.Walk.{has_failed, rest_of}
use Rattle.jp_select.proofs.descent.descend.Given as goal

-- the nodes so far and what the walk still gives are the node and all in it
abbrev pub invariant-loop-next : goal.invariant-loop-next
invariant-loop-next l = record {
  working : has_failed l.next-iterator ≡ false;
  all : map node_of l.nodes.items ++ rest_of l.next-iterator ≡ subtree_of (node_of l.fn.node);
}
