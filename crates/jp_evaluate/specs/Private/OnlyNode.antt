-- The only node of a nodelist, as the code holds it; m says what a value that is lent stands for.
use Rattle.std.specs.Prelude.{map}
use Rattle.jp_document.specs.Location.{step_of}
use Rattle.jp_document.specs.Node.{Node, node_at}
use Rattle.jp_document.specs.Value.{Value}
use Rattle.jp_evaluate.specs.declared.settled.answers.OnlyNode.{OnlyNode}

abbrev pub told_node : {V : Type 0} → (V → Value) → OnlyNode V → Node
told_node m n = node_at (map step_of n.location.items) (m n.value)
