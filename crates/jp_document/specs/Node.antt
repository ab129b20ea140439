-- Nodes (RFC 9535 section 1.1): a location with the value that stands there.
use Rattle.std.specs.Prelude.{◌≡◌, List, [], ◌∷◌, ◌++◌, Option, Some}
use Rattle.std.specs.Prelude.{None, MatchOption, map, option_map}
use Rattle.jp_document.specs.declared.value.Json.{Json}
use Rattle.jp_document.specs.Location.{Step, Location, child, entries, value_at}
use Rattle.jp_document.specs.Value.{Value, IsDocumentValue, value_of}

-- a node: a location and a value
pub record Node : Type 0 where
  pub location : Location
  pub value : Value

-- the node of a value at a location
abbrev pub node_at : Location → Value → Node
node_at l v = record { location = l; value = v }

abbrev pub location_of : Node → Location
location_of n = n.location

-- n stands in the document d: its value is the one that d has at its location
pub record StandsIn (d : Value) (n : Node) : Type 0 where
  pub document : IsDocumentValue d
  pub there : value_at d n.location ≡ Some n.value

-- the node of d at l, or None where d has no value there
abbrev pub IsNodeAt : Value → Location → Option Node → Type 0
IsNodeAt d l o = MatchOption o (value_at d l ≡ None) (λ n. (n.location ≡ l) × StandsIn d n)

-- the root of the document d
abbrev pub root_of : Value → Node
root_of d = node_at [] d

-- the node one step below l, at the step e.0 with the value e.1
abbrev pub node_below : Location → Step × Value → Node
node_below l e = node_at (l ++ e.0 ∷ []) e.1

-- the child of a node at a step, if there is one
abbrev pub child_of : Node → Step → Option Node
child_of n k = option_map (λ v. node_below n.location (k, v)) (child n.value k)

-- the children of a node, in document order
abbrev pub children : Node → List Node
children n = map (node_below n.location) (entries n.value)

-- ---- what the code's values stand for

-- the view of a `Node` of the code: its location, and the `Json` that stands for its value
pub record NodeView : Type 0 where
  pub location : Location
  pub value : Json

-- the node that it is
abbrev pub node_of : NodeView → Node
node_of n = node_at n.location (value_of n.value)
