-- What is asked at a value. It depends on the value alone and not on where it stands, so the
-- current node is told as if it stood at the root.
use Rattle.jp_document.specs.Node.{Node, root_of}
use Rattle.jp_document.specs.Value.{Value}
use Rattle.jp_evaluate.specs.declared.filter.Asking.{Asking}

-- what f says of the document and the current value, where m says what these stand for
abbrev pub asked : {V M X : Type 0} → (V → Value) → Asking V M → (Value → Node → X) → X
asked m a f = f (m a.evaluation.now.root) (root_of (m a.current))
