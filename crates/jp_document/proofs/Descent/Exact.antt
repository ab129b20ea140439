-- The children of a node are the nodes one step longer, in order: for the law `children_are_exact`.
use Rattle.std.proofs.Common.{◌≡◌, ◌<◌, true, List, [], ◌∷◌, ◌++◌, get_or, map, Option, Some}
use Rattle.std.proofs.Common.{None, is_some, Less, Equal, refl, sym, ap, subst, ◌∙◌}
use Rattle.std.specs.List.{All, AllByRecursion, Contains}
use Rattle.std.specs.List.Sorted.{IsStrictlySortedBy}
use Rattle.std.specs.Map.{keys_of}
use Rattle.std.specs.Ordering.{ordering_then}
use Rattle.std.proofs.lemmas.List.{get_or-map, length-map}
use Rattle.std.proofs.lemmas.List.Elements.{All-contains, All-map}
use Rattle.std.proofs.lemmas.Map.Views.{Contains-from_lookup, tells_apart}
use Rattle.std.proofs.lemmas.Option.{slice_get-get_or}
use Rattle.jp_document.specs.ChildNodes.{ChildrenAreExact, IsChild, IsListOf}
use Rattle.jp_document.specs.Location.{Step, step_cmp, Location, location_cmp}
use Rattle.jp_document.specs.Location.{entries, child, value_at}
use Rattle.jp_document.specs.Node.{Node, StandsIn, children, location_of, node_below}
use Rattle.jp_document.specs.Value.{Value}
use Rattle.jp_document.proofs.Descent.Inside.{value_at-step}
use Rattle.jp_document.proofs.Descent.Steps.{step_same, step_exact}
use Rattle.jp_document.proofs.Descent.Entries.{entries-rise}
use Rattle.jp_document.proofs.Descent.Nodes.{IsDocumentValue-at, child_there, child-stands}
use Rattle.jp_document.proofs.Descent.Nodes.{children-stand}

step_less : (l : Location) (a b : Step) → step_cmp a b ≡ Less
    → location_cmp (l ++ a ∷ []) (l ++ b ∷ []) ≡ Less
step_less [] a b less = ap (λ o. ordering_then o Equal) less
step_less (k ∷ l) a b less =
    ap (λ o. ordering_then o (location_cmp (l ++ a ∷ []) (l ++ b ∷ []))) (step_same k)
    ∙ step_less l a b less

all_less : (l : Location) (k : Step) (es : List (Step × Value))
    → AllByRecursion (λ y. step_cmp k y ≡ Less) (keys_of es)
    → AllByRecursion (λ m. location_cmp (l ++ k ∷ []) m ≡ Less)
    (map location_of (map (node_below l) es))
all_less l k [] h = tt
all_less l k (e ∷ es) h = (step_less l k e.0 h.0, all_less l k es h.1)

steps_rise : (l : Location) (es : List (Step × Value)) → IsStrictlySortedBy step_cmp (keys_of es)
    → IsStrictlySortedBy location_cmp (map location_of (map (node_below l) es))
unfolding IsStrictlySortedBy
steps_rise l [] h = tt
steps_rise l (e ∷ es) h = (all_less l e.0 es h.0, steps_rise l es h.1)

are_children : (d : Value) (n : Node) → StandsIn d n
    → All (IsChild d n.location) (map location_of (children n))
are_children d n stands =
    let l = n.location in
    let es = entries n.value in
    All-map (IsChild d l) location_of (children n)
    (All-map (λ c. IsChild d l c.location) (node_below l) es (λ i e within. (
      ap is_some (child_there d n i (get_or es i e) stands (slice_get-get_or es i e within)),
      ((get_or es i e).0, refl),
    )))

pub Contains-map : {A B : Type 0} (f : A → B) (xs : List A) (x : A) → Contains xs x
    → Contains (map f xs) (f x)
Contains-map f xs x has = (
  has.0,
  subst (λ n. has.0 < n) (sym (length-map xs f)) has.1,
  get_or-map f xs has.0 x (f x) has.1 ∙ ap f has.2,
)

some_of : (o : Option Value) → is_some o ≡ true → (w : Value) × (o ≡ Some w)
some_of None is = cc
some_of (Some w) is = (w, refl)

contains_child : (d : Value) (n : Node) (m : Location) → StandsIn d n → IsChild d n.location m
    → Contains (map location_of (children n)) m
contains_child d n m stands is =
    let k = is.1.0 in
    let es = entries n.value in
    let w =
    some_of (child n.value k)
    (ap is_some (sym (value_at-step d n.value n.location k stands.there))
    ∙ ap (λ x. is_some (value_at d x)) (sym is.1.1) ∙ is.0) in
    subst (Contains (map location_of (children n))) (sym is.1.1)
    (Contains-map location_of (children n) (node_below n.location (k, w.0))
    (Contains-map (node_below n.location) es (k, w.0)
    (Contains-from_lookup (tells_apart step_exact) k w.0 es w.1)))

listed : (d : Value) (n : Node) → StandsIn d n
    → IsListOf (IsChild d n.location) (map location_of (children n))
listed d n stands = record {
  rising = steps_rise n.location (entries n.value)
      (entries-rise n.value
      (IsDocumentValue-at d n.value n.location stands.document stands.there));
  exactly = λ m. (
    All-contains (IsChild d n.location) (map location_of (children n)) m
        (are_children d n stands),
    contains_child d n m stands,
  );
}

pub children_exact : ChildrenAreExact
children_exact = record { listed = listed; stand = children-stand; found = child-stands }
