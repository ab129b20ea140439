-- Laws of nodes and queries.
use Rattle.std.specs.Prelude.{◌≡◌, List, [], ◌∷◌, All}
use Rattle.std.specs.Str.{chars}
use Rattle.jp_document.specs.Node.{Node, StandsIn}
use Rattle.jp_document.specs.Path.{path_of}
use Rattle.jp_document.specs.Value.{Value}
use Rattle.jp_tree.specs.Tree.{QueryTree}
use Rattle.jp_check.specs.declared.profile.Profile.{Profile}
use Rattle.jp_check.specs.Accepted.{IsAcceptedAs}
use Rattle.jp_evaluate.specs.Nodelist.{nodelist, nodelist_at}

-- the normalized path of a node of a document, read as a query, is accepted in each profile and
-- selects that node alone (RFC 9535 section 2.7)
abbrev pub PathSelectsItsNode : Type 0
PathSelectsItsNode = (d : Value) (n : Node) → StandsIn d n
    → (q : QueryTree) × ((profile : Profile) → IsAcceptedAs profile (chars (path_of n.location)) q)
    × (nodelist q d ≡ n ∷ [])

-- a nodelist has nodes of the document alone, each with the value that stands at its location,
-- whatever node the query begins at (section 2.1.2)
abbrev pub SelectsNodesAlone : Type 0
SelectsNodesAlone =
    (q : QueryTree) (d : Value) (c : Node) → StandsIn d c → All (StandsIn d) (nodelist_at q d c)
