-- The nodes that a loop over the children of a node makes, and where children stand: for `children`
-- and the law `children_are_exact`.
use Rattle.std.proofs.Common.{◌≡◌, ℕ, zero, suc, ◌+◌, List}
use Rattle.std.proofs.Common.{[], ◌∷◌, ◌++◌, length, get_or, take, map, Option, Some, None}
use Rattle.std.proofs.Common.{refl, sym, ap, subst, ◌∙◌}
use Rattle.std.specs.List.{All, slice_get}
use Rattle.std.specs.Option.{option_map, option_and_then}
use Rattle.std.proofs.lemmas.List.{length_push, map-append, take_more}
use Rattle.std.proofs.lemmas.List.Elements.{All-map}
use Rattle.std.proofs.lemmas.Option.{slice_get-get_or, slice_get_within, same_Some}
use Rattle.jp_document.specs.Location.{Step, Location}
use Rattle.jp_document.specs.Location.{entries, child, value_at}
use Rattle.jp_document.specs.Node.{IsNodeAt, Node, StandsIn}
use Rattle.jp_document.specs.Node.{child_of, children, node_below}
use Rattle.jp_document.specs.Value.{Value, IsDocumentValue}
use Rattle.jp_document.proofs.Descent.Inside.{IsDocumentValue-child, value_at-step}
use Rattle.jp_document.proofs.Options.{some_from_then}
use Rattle.jp_document.proofs.Descent.Entries.{child-entry}

-- ---- the list that a loop makes

one_more : {X : Type 0} (xs : List X) (i : ℕ) (x : X) → Some x ≡ slice_get xs i
    → take (i + 1) xs ≡ take i xs ++ x ∷ []
one_more xs i x is =
    let within = slice_get_within xs i x (sym is) in
    take_more xs i x within
    ∙ ap (λ y. take i xs ++ y ∷ [])
    (same_Some _ _ (sym (slice_get-get_or xs i x within) ∙ sym is))

no_more : {X : Type 0} (xs : List X) (i : ℕ) → None ≡ slice_get xs i → take i xs ≡ xs
no_more [] zero is = refl
no_more [] (suc i) is = refl
no_more (x ∷ xs) zero is = cc
no_more (x ∷ xs) (suc i) is = ap (λ ys. x ∷ ys) (no_more xs i is)

pub grown : {X Y : Type 0} (f : X → Y) (xs : List X) (x : X) (all : List Y)
    → map f xs ≡ take (length xs) all → Some (f x) ≡ slice_get all (length xs)
    → map f (xs ++ x ∷ []) ≡ take (length (xs ++ x ∷ [])) all
grown f xs x all so is =
    map-append f xs (x ∷ []) ∙ ap (λ ps. ps ++ f x ∷ []) so
    ∙ sym (one_more all (length xs) (f x) is) ∙ ap (λ k. take k all) (sym (length_push xs x))

pub finished : {X Y : Type 0} (f : X → Y) (xs : List X) (all : List Y)
    → map f xs ≡ take (length xs) all → None ≡ slice_get all (length xs) → map f xs ≡ all
finished f xs all so is = so ∙ no_more all (length xs) is

-- ---- where the children stand

pub IsDocumentValue-at : (d v : Value) (l : Location) → IsDocumentValue d → value_at d l ≡ Some v
    → IsDocumentValue v
IsDocumentValue-at d v [] document is = subst IsDocumentValue (same_Some _ _ is) document
IsDocumentValue-at d v (k ∷ l) document is =
    let w = some_from_then (λ w. value_at w l) (child d k) v is in
    IsDocumentValue-at w.0 v l (IsDocumentValue-child d w.0 k document w.1)
    (sym (ap (option_and_then (λ x. value_at x l)) w.1) ∙ is)

-- the value of the document at a child's location
pub child_there : (d : Value) (n : Node) (i : ℕ) (e : Step × Value) → StandsIn d n
    → slice_get (entries n.value) i ≡ Some e → value_at d (n.location ++ e.0 ∷ []) ≡ Some e.1
child_there d n i e stands is =
    value_at-step d n.value n.location e.0 stands.there
    ∙ child-entry n.value i e.0 e.1
    (IsDocumentValue-at d n.value n.location stands.document stands.there) is

-- the children of a node that stands in d stand there too
pub children-stand : (d : Value) (n : Node) → StandsIn d n → All (StandsIn d) (children n)
children-stand d n stands =
    let es = entries n.value in
    All-map (StandsIn d) (node_below n.location) es (λ i e within. record {
      document = stands.document;
      there = child_there d n i (get_or es i e) stands (slice_get-get_or es i e within);
    })

child_stands_by : (d : Value) (n : Node) (k : Step) (o : Option Value)
    → value_at d (n.location ++ k ∷ []) ≡ o → StandsIn d n
    → IsNodeAt d (n.location ++ k ∷ []) (option_map (λ v. node_below n.location (k, v)) o)
child_stands_by d n k None at stands = at
child_stands_by d n k (Some v) at stands = (refl, record { document = stands.document; there = at })

-- the child at a step stands there too, or there is none
pub child-stands : (d : Value) (n : Node) (k : Step) → StandsIn d n
    → IsNodeAt d (n.location ++ k ∷ []) (child_of n k)
child-stands d n k stands =
    child_stands_by d n k (child n.value k) (value_at-step d n.value n.location k stands.there)
    stands
