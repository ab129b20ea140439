-- The meanings of functions, kind by kind.
use Rattle.std.specs.Prelude.{Bool, List, Option, Some, None}
use Rattle.jp_document.specs.Node.{Node}
use Rattle.jp_document.specs.Value.{Value, text}
use Rattle.jp_evaluate.specs.Functions.{Meaning, is_found, is_matched, nodes_of_nodes}
use Rattle.jp_evaluate.specs.Functions.{truth_of_values, value_of_nodes, value_of_value}
use Rattle.jp_evaluate.specs.declared.evaluating.Extent.{Extent}
use Rattle.jp_evaluate.specs.declared.evaluating.Extent.TheVariants as extent
use Rattle.jp_evaluate.specs.declared.kind.Kind.{Kind}
use Rattle.jp_evaluate.specs.declared.kind.Kind.TheVariants as kind

-- the kind of a meaning
abbrev pub kind_of : Meaning → Kind
kind_of (value_of_value f) = kind.ValueOfValue
kind_of (value_of_nodes f) = kind.ValueOfNodes
kind_of (nodes_of_nodes f) = kind.NodesOfNodes
kind_of (truth_of_values f) = kind.TruthOfValues

-- what it makes of a value, None where it makes none of one
abbrev pub made_of_value : Meaning → Option Value → Option Value
made_of_value (value_of_value f) v = f v
made_of_value _ v = None

-- what it makes of nodes, None where it makes no value of them
abbrev pub made_of_nodes : Meaning → List Node → Option Value
made_of_nodes (value_of_nodes f) ns = f ns
made_of_nodes _ ns = None

-- whether a text matches a pattern, the whole of it or some part
abbrev pub matched : Extent → Option Value → Option Value → Bool
matched extent.Whole v p = is_matched v p
matched extent.Part v p = is_found v p

-- a value where it is a text, Nothing in place of others
abbrev pub only_text : Option Value → Option Value
only_text (Some (text s)) = Some (text s)
only_text _ = None
