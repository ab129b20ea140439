-- The nodes in a value are all that stand there, and rise in document order.
use Rattle.std.proofs.Common.{◌≡◌, ℕ, zero, suc, ◌<◌, List, [], ◌∷◌, ◌++◌, length}
use Rattle.std.proofs.Common.{get_or, map, Option, Some, None, Less}
use Rattle.std.proofs.Common.{refl, sym, ap, subst, ◌∙◌, arith}
use Rattle.std.specs.List.{AllByRecursion, Contains, flat_map}
use Rattle.std.specs.List.Sorted.{IsStrictlySortedBy}
use Rattle.std.specs.Map.{keys_of}
use Rattle.std.specs.Option.{IsSome, is_some, option_and_then}
use Rattle.std.specs.Ordering.{ordering_then}
use Rattle.std.proofs.lemmas.List.{append-nil}
use Rattle.std.proofs.lemmas.List.Elements.{All-contains, All-map, All-weaker}
use Rattle.std.proofs.lemmas.List.Elements.{Contains-append_left, Contains-append_right}
use Rattle.std.proofs.lemmas.Map.Views.{Contains-from_lookup, tells_apart}
use Rattle.std.proofs.lemmas.Option.{same_Some}
use Rattle.jp_document.specs.ChildNodes.{IsListOf}
use Rattle.jp_document.specs.Location.{Step, step_cmp, Location}
use Rattle.jp_document.specs.Location.{location_cmp, entries, child, value_at}
use Rattle.jp_document.specs.Node.{Node, StandsIn, location_of, node_at, root_of}
use Rattle.jp_document.specs.Value.{Value, IsDocumentValue}
use Rattle.jp_document.proofs.Descent.Entries.{entries-rise, child-entry}
use Rattle.jp_document.proofs.Descent.Exact.{Contains-map}
use Rattle.jp_document.proofs.Descent.Inside.{IsDocumentValue-child}
use Rattle.jp_document.proofs.Descent.Steps.{step_exact, step_same}
use Rattle.jp_document.proofs.Descent.Nodes.{IsDocumentValue-at}
use Rattle.jp_document.proofs.Options.{some_from_then}
use Rattle.jp_select.specs.Laws.{SubtreeRises}
use Rattle.jp_select.specs.Subtree.{IsInSubtree, after, beyond, nodes_in, subtree_of}
use Rattle.jp_select.proofs.Locations.{HoldsUnder, value_at-append, inner, subtree-stands}
use Rattle.jp_select.proofs.Locations.{nodes_in-entries, by_children, Stands, nodes_stand}

-- ---- nodes rise

abbrev pub places : List Node → List Location
places ns = map location_of ns

abbrev pub Rise : List Node → Type 0
Rise ns = IsStrictlySortedBy location_cmp (places ns)

abbrev pub IsBefore : Location → List Node → Type 0
IsBefore l ns = AllByRecursion (λ m. location_cmp l m ≡ Less) (places ns)

pub cancel : (k l m : Location) → location_cmp (k ++ l) (k ++ m) ≡ location_cmp l m
cancel [] l m = refl
cancel (j ∷ k) l m =
    ap (λ o. ordering_then o (location_cmp (k ++ l) (k ++ m))) (step_same j) ∙ cancel k l m

-- nodes that rise do so further inside, and before others that they precede
beyond_rise : (l : Location) (xs ys : List Node) → Rise xs → Rise ys
    → ((m : Location) → IsBefore (l ++ m) ys) → Rise (map (beyond l) xs ++ ys)
unfolding IsStrictlySortedBy
beyond_rise l [] ys a b before = b
beyond_rise l (x ∷ xs) ys a b before = (further xs a.0, beyond_rise l xs ys a.1 b before)
  where
    further : (zs : List Node) → IsBefore x.location zs
        → IsBefore (l ++ x.location) (map (beyond l) zs ++ ys)
    further [] h = before x.location
    further (z ∷ zs) h = (cancel l x.location z.location ∙ h.0, further zs h.1)

-- what precedes each location that begins with a step, and more, precedes both
before_both : (l : Location) (k : Step) (xs ys : List Node)
    → ((t : Location) → location_cmp l (k ∷ t) ≡ Less) → IsBefore l ys
    → IsBefore l (map (after k) xs ++ ys)
before_both l k [] ys less h = h
before_both l k (x ∷ xs) ys less h = (less x.location, before_both l k xs ys less h)

before_later : (k : Step) (t : Location) (es : List (Step × Value))
    → AllByRecursion (λ y. step_cmp k y ≡ Less) (keys_of es) → IsBefore (k ∷ t) (flat_map inner es)
before_later k t [] h = tt
before_later k t (e ∷ es) h =
    before_both (k ∷ t) e.0 (nodes_in e.1) (flat_map inner es)
    (λ s. ap (λ o. ordering_then o (location_cmp t s)) h.0) (before_later k t es h.1)

root_first : (es : List (Step × Value)) → IsBefore [] (flat_map inner es)
root_first [] = tt
root_first (e ∷ es) =
    before_both [] e.0 (nodes_in e.1) (flat_map inner es) (λ t. refl) (root_first es)

inner_rise : (es : List (Step × Value)) → IsStrictlySortedBy step_cmp (keys_of es)
    → HoldsUnder (λ w. Rise (nodes_in w)) es → Rise (flat_map inner es)
unfolding IsStrictlySortedBy
inner_rise [] h each = tt
inner_rise (e ∷ es) h each =
    beyond_rise (e.0 ∷ []) (nodes_in e.1) (flat_map inner es) (each 0 e.0 e.1 refl)
    (inner_rise es h.1 (λ i k w is. each (suc i) k w is)) (λ t. before_later e.0 t es h.0)

nodes_rise : (v : Value) → IsDocumentValue v → Rise (nodes_in v)
unfolding IsStrictlySortedBy
nodes_rise = by_children (λ v. IsDocumentValue v → Rise (nodes_in v)) (λ v each document.
    subst Rise (sym (nodes_in-entries v)) (
      root_first (entries v),
      inner_rise (entries v) (entries-rise v document) (λ i k w is.
          each i k w is (IsDocumentValue-child v w k document (child-entry v i k w document is))),
    ))

no_nodes_rise : Rise []
unfolding IsStrictlySortedBy
no_nodes_rise = tt

-- ---- each node is among them

contained_in : {X Y : Type 0} (f : X → List Y) (xs : List X) (x : X) (y : Y) (i : ℕ)
    → i < length xs → get_or xs i x ≡ x → Contains (f x) y → Contains (flat_map f xs) y
contained_in f [] x y i within is h = absurd (omega arith)
contained_in f (z ∷ xs) x y zero within is h =
    Contains-append_left (f z) (flat_map f xs) y (subst (λ w. Contains (f w) y) (sym is) h)
contained_in f (z ∷ xs) x y (suc i) within is h =
    Contains-append_right (f z) (flat_map f xs) y (contained_in f xs x y i (omega arith) is h)

nodes_all : (v : Value) (t : Location) (w : Value) → value_at v t ≡ Some w
    → Contains (nodes_in v) (node_at t w)
nodes_all v [] w is =
    subst (λ ns. Contains ns (root_of w)) (sym (nodes_in-entries v))
    (0, omega arith, ap root_of (same_Some v w is))
nodes_all v (k ∷ t) w is =
    let x = some_from_then (λ x. value_at x t) (child v k) w is in
    let here = Contains-from_lookup (tells_apart step_exact) k x.0 (entries v) x.1 in
    subst (λ ns. Contains ns (node_at (k ∷ t) w)) (sym (nodes_in-entries v))
    (Contains-append_right (root_of v ∷ []) (flat_map inner (entries v)) (node_at (k ∷ t) w)
    (contained_in inner (entries v) (k, x.0) (node_at (k ∷ t) w) here.0 here.1 here.2
    (Contains-map (after k) (nodes_in x.0) (node_at t w) (nodes_all x.0 t w x.2))))

-- ---- the law

some_there : (o : Option Value) → IsSome o → (w : Value) × (o ≡ Some w)
some_there None h = absurd (cc)
some_there (Some w) h = (w, refl)

pub subtree_law : SubtreeRises
subtree_law = record { listed = listed; stand = subtree-stands }
  where
    listed : (d : Value) (n : Node) → StandsIn d n
        → IsListOf (IsInSubtree d n.location) (map location_of (subtree_of n))
    listed d n stands =
        let l = n.location in
        let ns = nodes_in n.value in
        let here = IsDocumentValue-at d n.value l stands.document stands.there in
        let at : (t : Location) → value_at d (l ++ t) ≡ value_at n.value t = λ t.
        value_at-append d l t ∙ ap (option_and_then (λ w. value_at w t)) stands.there in
        let all =
        All-map (IsInSubtree d l) location_of (subtree_of n)
        (All-map (λ m. IsInSubtree d l m.location) (beyond l) ns
        (All-weaker (Stands n.value) (λ m. IsInSubtree d l (l ++ m.location)) (λ m there. record {
          there = ap is_some (at m.location ∙ there);
          rest = m.location;
          begins = refl;
        }) ns (nodes_stand n.value here))) in
        record {
          rising =
              subst Rise (append-nil (subtree_of n))
              (beyond_rise l ns [] (nodes_rise n.value here) no_nodes_rise (λ t. tt));
          exactly = λ m. (
            All-contains (IsInSubtree d l) (map location_of (subtree_of n)) m all,
            λ b.
                let w = some_there (value_at d m) b.there in
                let there : value_at n.value b.rest ≡ Some w.0 =
                sym (at b.rest) ∙ ap (value_at d) (sym b.begins) ∙ w.1 in
                subst (Contains (map location_of (subtree_of n))) (sym b.begins)
                (Contains-map location_of (subtree_of n) (beyond l (node_at b.rest w.0))
                (Contains-map (beyond l) ns (node_at b.rest w.0)
                (nodes_all n.value b.rest w.0 there))),
          );
        }
