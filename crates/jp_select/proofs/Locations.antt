-- Values and their locations: what stands in a value, and where.
use Rattle.std.proofs.Common.{◌≡◌, ℕ, zero, suc, List, [], ◌∷◌, ◌++◌, map, Option}
use Rattle.std.proofs.Common.{Some, None, refl, sym, ap, ap₂, subst, ◌∙◌, append_assoc}
use Rattle.std.specs.List.{All, flat_map, slice_get}
use Rattle.std.specs.Option.{option_and_then}
use Rattle.std.proofs.lemmas.List.{append-nil, map-append}
use Rattle.std.proofs.lemmas.List.Elements.{All-cons, All-nil, All-append, All-map, All-weaker}
use Rattle.std.proofs.lemmas.Option.{same_Some}
use Rattle.jp_document.specs.Location.{Step, named, nth, Location, items_from}
use Rattle.jp_document.specs.Location.{members_by_name, entries, child, value_at}
use Rattle.jp_document.specs.Node.{Node, StandsIn, node_at, node_below, root_of}
use Rattle.jp_document.specs.Value.{Value, null, boolean, whole, decimal, text, list, object, Items}
use Rattle.jp_document.specs.Value.{no_items, item, Members, no_members, member, IsDocumentValue}
use Rattle.jp_document.proofs.Descent.Inside.{IsDocumentValue-child}
use Rattle.jp_document.proofs.Descent.Entries.{child-entry}
use Rattle.jp_document.proofs.Descent.Nodes.{IsDocumentValue-at}
use Rattle.jp_select.specs.Subtree.{after, beyond, nodes_in, nodes_in_items}
use Rattle.jp_select.specs.Subtree.{nodes_in_members, subtree_of}

-- ---- values at longer locations

append_inside : (o : Option Value) (l t : Location)
    → ((w : Value) → value_at w (l ++ t) ≡ option_and_then (λ x. value_at x t) (value_at w l))
    → option_and_then (λ w. value_at w (l ++ t)) o ≡
    option_and_then (λ x. value_at x t) (option_and_then (λ w. value_at w l) o)
append_inside None l t each = refl
append_inside (Some w) l t each = each w

pub value_at-append : (d : Value) (l t : Location)
    → value_at d (l ++ t) ≡ option_and_then (λ w. value_at w t) (value_at d l)
value_at-append d [] t = refl
value_at-append d (k ∷ l) t = append_inside (child d k) l t (λ w. value_at-append w l t)

-- ---- a value and its children

-- the nodes in a child, as seen from its parent
abbrev pub inner : Step × Value → List Node
inner e = map (after e.0) (nodes_in e.1)

items-inner : (i : ℕ) (vs : Items) → nodes_in_items i vs ≡ flat_map inner (items_from i vs)
items-inner i no_items = refl
items-inner i (item v vs) = ap (λ t. inner (nth i, v) ++ t) (items-inner (suc i) vs)

members-inner : (ms : Members) → nodes_in_members ms ≡ flat_map inner (members_by_name ms)
members-inner no_members = refl
members-inner (member n v ms) = ap (λ t. inner (named n, v) ++ t) (members-inner ms)

pub nodes_in-entries : (v : Value) → nodes_in v ≡ root_of v ∷ flat_map inner (entries v)
nodes_in-entries null = refl
nodes_in-entries (boolean b) = refl
nodes_in-entries (whole z) = refl
nodes_in-entries (decimal c e) = refl
nodes_in-entries (text s) = refl
nodes_in-entries (list vs) = ap (λ t. root_of (list vs) ∷ t) (items-inner 0 vs)
nodes_in-entries (object ms) = ap (λ t. root_of (object ms) ∷ t) (members-inner ms)

abbrev pub HoldsUnder : (Value → Type 0) → List (Step × Value) → Type 0
HoldsUnder P es = (i : ℕ) (k : Step) (w : Value) → slice_get es i ≡ Some (k, w) → P w

-- what holds of a value where it holds of its children holds of all values
mutual
  pub by_children : (P : Value → Type 0) → ((v : Value) → HoldsUnder P (entries v) → P v)
      → (v : Value) → P v
  by_children P step null = step null (λ i k w is. absurd (cc))
  by_children P step (boolean b) = step (boolean b) (λ i k w is. absurd (cc))
  by_children P step (whole z) = step (whole z) (λ i k w is. absurd (cc))
  by_children P step (decimal c e) = step (decimal c e) (λ i k w is. absurd (cc))
  by_children P step (text s) = step (text s) (λ i k w is. absurd (cc))
  by_children P step (list vs) = step (list vs) (by_items P step vs 0)
  by_children P step (object ms) = step (object ms) (by_members P step ms)

  by_items : (P : Value → Type 0) → ((v : Value) → HoldsUnder P (entries v) → P v)
      → (vs : Items) (n : ℕ) → HoldsUnder P (items_from n vs)
  by_items P step no_items n i k w is = absurd (cc)
  by_items P step (item v vs) n zero k w is =
      subst P (ap (λ e. e.1) (same_Some (nth n, v) (k, w) is)) (by_children P step v)
  by_items P step (item v vs) n (suc i) k w is = by_items P step vs (suc n) i k w is

  by_members : (P : Value → Type 0) → ((v : Value) → HoldsUnder P (entries v) → P v)
      → (ms : Members) → HoldsUnder P (members_by_name ms)
  by_members P step no_members i k w is = absurd (cc)
  by_members P step (member n v ms) zero k w is =
      subst P (ap (λ e. e.1) (same_Some (named n, v) (k, w) is)) (by_children P step v)
  by_members P step (member n v ms) (suc i) k w is = by_members P step ms i k w is

-- ---- each node in a value stands at its location

pub All-flat_map_each : {X Y : Type 0} (P : Y → Type 0) (f : X → List Y) (xs : List X)
    → ((i : ℕ) (x : X) → slice_get xs i ≡ Some x → All P (f x)) → All P (flat_map f xs)
All-flat_map_each P f [] each = All-nil P
All-flat_map_each P f (x ∷ xs) each =
    All-append P (f x) (flat_map f xs) (each 0 x refl)
    (All-flat_map_each P f xs (λ i y is. each (suc i) y is))

abbrev pub Stands : Value → Node → Type 0
Stands v n = value_at v n.location ≡ Some n.value

stands_under : (v : Value) (k : Step) (w : Value) → child v k ≡ Some w
    → All (Stands w) (nodes_in w) → All (Stands v) (inner (k, w))
stands_under v k w is all =
    All-map (Stands v) (after k) (nodes_in w)
    (All-weaker (Stands w) (λ e. Stands v (after k e))
    (λ e h. ap (option_and_then (λ x. value_at x e.location)) is ∙ h) (nodes_in w) all)

pub nodes_stand : (v : Value) → IsDocumentValue v → All (Stands v) (nodes_in v)
nodes_stand = by_children (λ v. IsDocumentValue v → All (Stands v) (nodes_in v)) (λ v each document.
    subst (All (Stands v)) (sym (nodes_in-entries v))
    (All-cons (Stands v) (root_of v) (flat_map inner (entries v)) refl
    (All-flat_map_each (Stands v) inner (entries v) (λ i e is.
    let at : child v e.0 ≡ Some e.1 = child-entry v i e.0 e.1 document is in
    stands_under v e.0 e.1 at (each i e.0 e.1 is (IsDocumentValue-child v e.1 e.0 document at))))))

-- ---- a node and its descendants

-- each is a node of the document in which the first stands
pub subtree-stands : (d : Value) (n : Node) → StandsIn d n → All (StandsIn d) (subtree_of n)
subtree-stands d n stands =
    All-map (StandsIn d) (beyond n.location) (nodes_in n.value)
    (All-weaker (Stands n.value) (λ m. StandsIn d (beyond n.location m)) (λ m there. record {
      document = stands.document;
      there =
          value_at-append d n.location m.location
          ∙ ap (option_and_then (λ w. value_at w m.location)) stands.there ∙ there;
    }) (nodes_in n.value)
    (nodes_stand n.value
    (IsDocumentValue-at d n.value n.location stands.document stands.there)))

beyond-after : (l : Location) (k : Step) (ns : List Node)
    → map (beyond l) (map (after k) ns) ≡ map (beyond (l ++ k ∷ [])) ns
beyond-after l k [] = refl
beyond-after l k (n ∷ ns) =
    ap₂ (λ m t. node_at m n.value ∷ t) (sym (append_assoc l (k ∷ []) n.location))
    (beyond-after l k ns)

beyond-inner : (l : Location) (es : List (Step × Value))
    → map (beyond l) (flat_map inner es) ≡ flat_map subtree_of (map (node_below l) es)
beyond-inner l [] = refl
beyond-inner l (e ∷ es) =
    map-append (beyond l) (inner e) (flat_map inner es)
    ∙ ap₂ (λ s t. s ++ t) (beyond-after l e.0 (nodes_in e.1)) (beyond-inner l es)

-- a node comes before what its children give
pub nodes-children : (l : Location) (v : Value)
    → subtree_of (node_at l v) ≡ node_at l v ∷ flat_map subtree_of (map (node_below l) (entries v))
nodes-children l v =
    ap (map (beyond l)) (nodes_in-entries v)
    ∙ ap₂ (λ m t. node_at m v ∷ t) (append-nil l) (beyond-inner l (entries v))
