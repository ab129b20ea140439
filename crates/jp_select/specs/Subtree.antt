-- A node and its descendants in document order (RFC 9535 section 2.5.2.2).
use Rattle.std.specs.Prelude.{◌≡◌, ℕ, suc, List, [], ◌∷◌, ◌++◌, map, IsSome}
use Rattle.jp_document.specs.Location.{Step, named, nth, Location, value_at}
use Rattle.jp_document.specs.Node.{Node, root_of}
use Rattle.jp_document.specs.Value.{Value, null, boolean, whole, decimal, text, list, object, Items}
use Rattle.jp_document.specs.Value.{no_items, item, Members, no_members, member}

-- a node, as seen from one step before
abbrev pub after : Step → Node → Node
after k n = record { location = k ∷ n.location; value = n.value }

-- the nodes in v, each located from v on: v itself, then those in each child in turn
abbrev mutual
  pub nodes_in : Value → List Node
  nodes_in null = root_of null ∷ []
  nodes_in (boolean b) = root_of (boolean b) ∷ []
  nodes_in (whole z) = root_of (whole z) ∷ []
  nodes_in (decimal c e) = root_of (decimal c e) ∷ []
  nodes_in (text s) = root_of (text s) ∷ []
  nodes_in (list vs) = root_of (list vs) ∷ nodes_in_items 0 vs
  nodes_in (object ms) = root_of (object ms) ∷ nodes_in_members ms

  pub nodes_in_items : ℕ → Items → List Node
  nodes_in_items i no_items = []
  nodes_in_items i (item v vs) = map (after (nth i)) (nodes_in v) ++ nodes_in_items (suc i) vs

  pub nodes_in_members : Members → List Node
  nodes_in_members no_members = []
  nodes_in_members (member n v ms) = map (after (named n)) (nodes_in v) ++ nodes_in_members ms

-- a node in the value at l, located from the root on
abbrev pub beyond : Location → Node → Node
beyond l n = record { location = l ++ n.location; value = n.value }

-- a node and its descendants, in document order
abbrev pub subtree_of : Node → List Node
subtree_of n = map (beyond n.location) (nodes_in n.value)

-- m is the location of a node of d, and begins with l
pub record IsInSubtree (d : Value) (l m : Location) : Type 0 where
  pub there : IsSome (value_at d m)
  pub rest : Location
  pub begins : m ≡ l ++ rest
