-- Whether segments reach a node depends on a set of nodes, and how many they reach adds up.
use Rattle.std.proofs.Common.{◌≡◌, zero, suc, Bool, true, false, ◌||◌, List, [], ◌∷◌, ◌++◌}
use Rattle.std.proofs.Common.{All, length, refl, ap, sym, ◌∙◌, arith}
use Rattle.std.specs.List.{Contains, flat_map, list_any}
use Rattle.std.proofs.lemmas.List.Concat.{length-flat_map}
use Rattle.std.proofs.lemmas.List.Elements.{All-head, All-tail}
use Rattle.jp_document.specs.Node.{Node}
use Rattle.jp_document.specs.Value.{Value}
use Rattle.jp_tree.specs.Tree.{SegmentTrees}
use Rattle.jp_evaluate.specs.NodelistLaws.{CountsAddUp, ExistenceGoesBySets}
use Rattle.jp_evaluate.specs.Nodelist.{has_node, result}
use Rattle.jp_evaluate.specs.Private.Walk.{reaches}
use Rattle.jp_evaluate.proofs.Nodelists.Joined.{result-each}

has-append : (xs ys : List Node) → has_node (xs ++ ys) ≡ (has_node xs || has_node ys)
has-append [] ys = refl
has-append (x ∷ xs) ys = refl

has-flat_map : (f : Node → List Node) (ns : List Node)
    → has_node (flat_map f ns) ≡ list_any (λ n. has_node (f n)) ns
has-flat_map f [] = refl
has-flat_map f (n ∷ ns) =
    has-append (f n) (flat_map f ns) ∙ ap (λ b. has_node (f n) || b) (has-flat_map f ns)

each : (all : SegmentTrees) (d : Value) (ns : List Node)
    → has_node (result all d ns) ≡ list_any (λ n. has_node (reaches all d n)) ns
each all d ns = ap has_node (result-each all d ns) ∙ has-flat_map (reaches all d) ns

same_by_both : (a b : Bool) → (a ≡ true → b ≡ true) → (b ≡ true → a ≡ true) → a ≡ b
same_by_both true b f g = sym (f refl)
same_by_both false true f g = g refl
same_by_both false false f g = refl

or-true : (a : Bool) → (a || true) ≡ true
or-true true = refl
or-true false = refl

any_has : (p : Node → Bool) (ms : List Node) (x : Node) → Contains ms x → p x ≡ true
    → list_any p ms ≡ true
any_has p [] x there passes = absurd (omega (arith, there.1))
any_has p (m ∷ ms) x (zero, within, is) passes = ap (λ b. b || list_any p ms) (ap p is ∙ passes)
any_has p (m ∷ ms) x (suc k, within, is) passes =
    ap (λ b. p m || b) (any_has p ms x (k, omega arith, is) passes) ∙ or-true (p m)

one_of : (b c t : Bool) → (b ≡ true → t ≡ true) → (c ≡ true → t ≡ true) → (b || c) ≡ true
    → t ≡ true
one_of true c t f g either = f refl
one_of false c t f g either = g either

any_among : (p : Node → Bool) (ns ms : List Node) → All (Contains ms) ns → list_any p ns ≡ true
    → list_any p ms ≡ true
any_among p [] ms all some = absurd (cc)
any_among p (n ∷ ns) ms all some =
    one_of (p n) (list_any p ns) (list_any p ms)
    (λ is. any_has p ms n (All-head (Contains ms) n ns all) is)
    (λ is. any_among p ns ms (All-tail (Contains ms) n ns all) is) some

pub existence_goes_by_sets : ExistenceGoesBySets
existence_goes_by_sets all d ns ms there back =
    let p : Node → Bool = λ n. has_node (reaches all d n) in
    each all d ns
    ∙ same_by_both (list_any p ns) (list_any p ms) (any_among p ns ms there) (any_among p ms ns back)
    ∙ sym (each all d ms)

pub counts_add_up : CountsAddUp
counts_add_up all d ns = ap length (result-each all d ns) ∙ length-flat_map (reaches all d) ns
