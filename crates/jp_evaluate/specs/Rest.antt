-- What an iterator of nodes still has to give.
use Rattle.std.specs.Prelude.{List, Bool}
use Rattle.jp_document.specs.DocumentValue.{lent_value}
use Rattle.jp_document.specs.Node.{Node}
use Rattle.jp_evaluate.specs.Lent as lent
use Rattle.jp_evaluate.specs.declared.each.Nodes.{Nodes}

-- the nodes that it still has to give, told by what it holds now
abbrev pub rest_of : {M : Type 0} → Nodes M → List Node
rest_of v = lent.rest_of lent_value v.nodes

-- memory ran out for a node, so that no more are given
abbrev pub has_failed : {M : Type 0} → Nodes M → Bool
has_failed v = lent.has_failed v.nodes
