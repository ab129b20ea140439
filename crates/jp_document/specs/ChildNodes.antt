-- Lists of locations in document order, and the children of a node (RFC 9535 section 1.1).
use Rattle.std.specs.Prelude.{◌≡◌, ◌↔◌, List, [], ◌∷◌, ◌++◌, map, IsSome}
use Rattle.std.specs.List.{All, Contains}
use Rattle.std.specs.List.Sorted.{IsStrictlySortedBy}
use Rattle.jp_document.specs.Location.{Step, Location, location_cmp, value_at}
use Rattle.jp_document.specs.Node.{IsNodeAt, Node, StandsIn, child_of, children, location_of}
use Rattle.jp_document.specs.Value.{Value}

-- ls is the list, rising in document order, of exactly the locations that P holds of
pub record IsListOf (P : Location → Type 0) (ls : List Location) : Type 0 where
  pub rising : IsStrictlySortedBy location_cmp ls
  pub exactly : (m : Location) → Contains ls m ↔ P m

-- at m stands a node of d, and m is l and one step more
abbrev pub IsChild : Value → Location → Location → Type 0
IsChild d l m = IsSome (value_at d m) × ((k : Step) × (m ≡ l ++ k ∷ []))

pub record ChildrenAreExact : Type 0 where
  -- the children's locations are exactly those of d's nodes that go one step on from n, rising in
  -- document order
  pub listed : (d : Value) (n : Node) → StandsIn d n
      → IsListOf (IsChild d n.location) (map location_of (children n))
  -- each child stands in d
  pub stand : (d : Value) (n : Node) → StandsIn d n → All (StandsIn d) (children n)
  -- the child at a step is the node of d there, or there is none
  pub found : (d : Value) (n : Node) (k : Step) → StandsIn d n
      → IsNodeAt d (n.location ++ k ∷ []) (child_of n k)
