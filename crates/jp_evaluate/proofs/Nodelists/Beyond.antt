-- Lists of nodes further on: the same nodes, each as far again below another place.
use Rattle.std.proofs.Common.{◌≡◌, Bool, true, false, not, if◌then◌else◌, List, [], ◌∷◌, ◌++◌}
use Rattle.std.proofs.Common.{is_eq, map, refl, ap, ap₂, sym, ◌∙◌, append_assoc}
use Rattle.std.specs.List.{filter as those_of, flat_map}
use Rattle.std.proofs.lemmas.List.{map-append}
use Rattle.jp_document.specs.Location.{Step, Location}
use Rattle.jp_document.specs.Node.{Node, node_at, node_below}
use Rattle.jp_document.specs.Value.{Value}
use Rattle.jp_select.proofs.Rising.{cancel}
use Rattle.jp_select.specs.Subtree.{beyond, nodes_in, subtree_of}
use Rattle.jp_evaluate.specs.Functions.{only_value, without_repeats}
use Rattle.jp_evaluate.specs.Nodelist.{has_node, visited}
use Rattle.jp_evaluate.proofs.Nodelists.Repeats.{others}

pub nodes_below-beyond : (l m : Location) (es : List (Step × Value))
    → map (node_below (l ++ m)) es ≡ map (beyond l) (map (node_below m) es)
nodes_below-beyond l m [] = refl
nodes_below-beyond l m (e ∷ es) =
    ap₂ (λ k ns. node_at k e.1 ∷ ns) (append_assoc l m (e.0 ∷ [])) (nodes_below-beyond l m es)

pub beyond-beyond : (l m : Location) (ns : List Node)
    → map (beyond (l ++ m)) ns ≡ map (beyond l) (map (beyond m) ns)
beyond-beyond l m [] = refl
beyond-beyond l m (n ∷ ns) =
    ap₂ (λ k xs. node_at k n.value ∷ xs) (append_assoc l m n.location) (beyond-beyond l m ns)

pub beyond-nothing : (ns : List Node) → ns ≡ map (beyond []) ns
beyond-nothing [] = refl
beyond-nothing (n ∷ ns) = ap (λ xs. n ∷ xs) (beyond-nothing ns)

pub flat_map-beyond : (l : Location) (f : Node → List Node) (ns : List Node)
    → ((n : Node) → f (beyond l n) ≡ map (beyond l) (f n))
    → flat_map f (map (beyond l) ns) ≡ map (beyond l) (flat_map f ns)
flat_map-beyond l f [] each = refl
flat_map-beyond l f (n ∷ ns) each =
    ap₂ (λ xs ys. xs ++ ys) (each n) (flat_map-beyond l f ns each)
    ∙ sym (map-append (beyond l) (f n) (flat_map f ns))

pub those_of-map : (f : Node → Node) (p q : Node → Bool) (ns : List Node)
    → ((n : Node) → p (f n) ≡ q n) → those_of p (map f ns) ≡ map f (those_of q ns)
those_of-map f p q [] same = refl
those_of-map f p q (n ∷ ns) same =
    ap₂ (λ b xs. if b then f n ∷ xs else xs) (same n) (those_of-map f p q ns same) ∙ kept (q n)
  where
    kept : (b : Bool)
        → (if b then f n ∷ map f (those_of q ns) else map f (those_of q ns))
        ≡ map f (if b then n ∷ those_of q ns else those_of q ns)
    kept true = refl
    kept false = refl

pub those_of-beyond : (l : Location) (p q : Node → Bool) (ns : List Node)
    → ((n : Node) → p (beyond l n) ≡ q n)
    → those_of p (map (beyond l) ns) ≡ map (beyond l) (those_of q ns)
those_of-beyond l = those_of-map (beyond l)

pub repeats-beyond : (l : Location) (ns : List Node)
    → without_repeats (map (beyond l) ns) ≡ map (beyond l) (without_repeats ns)
repeats-beyond l [] = refl
repeats-beyond l (n ∷ ns) =
    ap (λ t. beyond l n ∷ t)
    (ap (those_of (others (beyond l n))) (repeats-beyond l ns)
    ∙ those_of-beyond l (others (beyond l n)) (others n) (without_repeats ns)
    (λ m. ap (λ o. not (is_eq o)) (cancel l n.location m.location)))

pub visited-beyond : (b : Bool) (l : Location) (ns : List Node)
    → visited b (map (beyond l) ns) ≡ map (beyond l) (visited b ns)
visited-beyond false l ns = refl
visited-beyond true l ns =
    flat_map-beyond l subtree_of ns (λ n. beyond-beyond l n.location (nodes_in n.value))

pub has_node-beyond : (l : Location) (ns : List Node) → has_node (map (beyond l) ns) ≡ has_node ns
has_node-beyond l [] = refl
has_node-beyond l (n ∷ ns) = refl

pub only-beyond : (l : Location) (ns : List Node) → only_value (map (beyond l) ns) ≡ only_value ns
only-beyond l [] = refl
only-beyond l (n ∷ []) = refl
only-beyond l (n ∷ m ∷ ns) = refl
