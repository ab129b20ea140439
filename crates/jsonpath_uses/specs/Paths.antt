-- Normalized paths of nodes, and the values that they lead to (RFC 9535 section 2.7).
use Rattle.std.specs.Prelude.{◌≡◌, ℕ, List, Option}
use Rattle.jsonpath.specs.Location.{Location, value_at}
use Rattle.jsonpath.specs.Node.{Node}
use Rattle.jsonpath.specs.Path.{path_of}
use Rattle.jsonpath.specs.Value.{Value}

-- the normalized path of a node
abbrev pub path_of_node : Node → List ℕ
path_of_node n = path_of n.location

-- the text is the path of a location, at which the document has this value, or none
pub record LeadsTo (document : Value) (text : List ℕ) (found : Option Value) : Type 0 where
  pub location : Location
  pub path : text ≡ path_of location
  pub there : found ≡ value_at document location
