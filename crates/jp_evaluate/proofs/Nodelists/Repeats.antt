-- Nodes without repeats.
use Rattle.std.proofs.Common.{◌≡◌, Bool, true, false, not, ◌&&◌, ◌||◌, if◌then◌else◌, List, []}
use Rattle.std.proofs.Common.{◌∷◌, ◌++◌, Ordering, Less, Equal, Greater, is_eq}
use Rattle.std.proofs.Common.{refl, ap, ap₂, sym, ◌∙◌, arith}
use Rattle.std.specs.Cmp.{IsTotalOrder}
use Rattle.std.specs.List.{All, AllByRecursion, Contains, filter as those_of}
use Rattle.std.specs.Ordering.{ordering_reverse}
use Rattle.std.proofs.lemmas.Cmp.{lists_total}
use Rattle.std.proofs.lemmas.List.Elements.{All-cons, All-filter, All-nil, All-weaker}
use Rattle.std.proofs.lemmas.List.Elements.{Contains-append_right, filter-append}
use Rattle.jp_document.specs.Location.{location_cmp}
use Rattle.jp_document.specs.Node.{Node}
use Rattle.jp_document.proofs.Descent.Steps.{step_cmp_total}
use Rattle.jp_evaluate.specs.Functions.{is_same_node, without_repeats}
use Rattle.jp_evaluate.specs.NodelistLaws.{AreApart, DistinctIsExact, is_there}

-- ---- nodes at one location

pub location_cmp_total : IsTotalOrder location_cmp
location_cmp_total = lists_total step_cmp_total

pub equal_from : (o : Ordering) → is_eq o ≡ true → o ≡ Equal
equal_from Less is = absurd (cc)
equal_from Equal is = refl
equal_from Greater is = absurd (cc)

-- nodes at one location are the same beside any other
pub same-beside : (n m x : Node) → is_same_node n m ≡ true → is_same_node n x ≡ is_same_node m x
same-beside n m x is =
    ap is_eq (location_cmp_total.congr n.location m.location x.location (equal_from _ is))

reversed : (o : Ordering) → is_eq (ordering_reverse o) ≡ is_eq o
reversed Less = refl
reversed Equal = refl
reversed Greater = refl

pub same-symmetric : (n m : Node) → is_same_node n m ≡ is_same_node m n
same-symmetric n m =
    ap is_eq (location_cmp_total.antisymm n.location m.location)
    ∙ reversed (location_cmp m.location n.location)

-- ---- those that pass a test

abbrev pub others : Node → Node → Bool
others n m = not (is_same_node n m)

those-of_those : (p q : Node → Bool) (ns : List Node)
    → those_of p (those_of q ns) ≡ those_of (λ n. q n && p n) ns
those-of_those p q [] = refl
those-of_those p q (n ∷ ns) = decided (q n) (those-of_those p q ns)
  where
    rest : List Node
    rest = those_of (λ m. q m && p m) ns

    decided : (b : Bool) → those_of p (those_of q ns) ≡ rest
        → those_of p (if b then n ∷ those_of q ns else those_of q ns)
        ≡ (if b && p n then n ∷ rest else rest)
    decided true later = ap (λ t. if p n then n ∷ t else t) later
    decided false later = later

pub those-same : (p q : Node → Bool) (ns : List Node) → ((n : Node) → p n ≡ q n)
    → those_of p ns ≡ those_of q ns
those-same p q [] each = refl
those-same p q (n ∷ ns) each =
    ap₂ (λ b t. if b then n ∷ t else t) (each n) (those-same p q ns each)

-- ---- the first of several that count

-- a test that tells no nodes at one location apart
abbrev pub Respects : (Node → Bool) → Type 0
Respects p = (n m : Node) → is_same_node n m ≡ true → p n ≡ p m

absorbed : (p : Node → Bool) (n m : Node) → Respects p → p n ≡ false → (others n m && p m) ≡ p m
absorbed p n m respects old = decided (is_same_node n m) refl
  where
    decided : (b : Bool) → is_same_node n m ≡ b → (not b && p m) ≡ p m
    decided true is = sym old ∙ respects n m is
    decided false is = refl

-- a node that does not count
pub counts-not : (p : Node → Bool) (n : Node) (ns : List Node) → Respects p → p n ≡ false
    → those_of p (without_repeats (n ∷ ns)) ≡ those_of p (without_repeats ns)
counts-not p n ns respects old =
    let left = without_repeats ns in
    let rest = those_of p (those_of (others n) left) in
    ap (λ b. if b then n ∷ rest else rest) old ∙ those-of_those p (others n) left
    ∙ those-same (λ m. others n m && p m) p left (λ m. absorbed p n m respects old)

-- a node that counts does not count again
pub counts-new : (p : Node → Bool) (n : Node) (ns : List Node) → p n ≡ true
    → those_of p (without_repeats (n ∷ ns))
    ≡ n ∷ those_of (λ m. others n m && p m) (without_repeats ns)
counts-new p n ns new =
    let left = without_repeats ns in
    let rest = those_of p (those_of (others n) left) in
    ap (λ b. if b then n ∷ rest else rest) new
    ∙ ap (λ t. n ∷ t) (those-of_those p (others n) left)

-- ---- the law

others-all : (n : Node) (ns : List Node) → AllByRecursion (λ m. is_same_node n m ≡ false) ns
    → those_of (others n) ns ≡ ns
others-all n [] differ = refl
others-all n (m ∷ ns) differ =
    ap₂ (λ b t. if b then m ∷ t else t) (ap not differ.0) (others-all n ns differ.1)

pub unchanged : (ns : List Node) → AreApart ns → without_repeats ns ≡ ns
unchanged [] differ = refl
unchanged (n ∷ ns) differ =
    ap (λ t. n ∷ t)
    (ap (those_of (others n)) (unchanged ns differ.1) ∙ others-all n ns differ.0)

others-differ : (n : Node) (ns : List Node)
    → AllByRecursion (λ m. is_same_node n m ≡ false) (those_of (others n) ns)
others-differ n [] = tt
others-differ n (m ∷ ns) = decided (is_same_node n m) refl (others-differ n ns)
  where
    decided : (b : Bool) → is_same_node n m ≡ b
        → AllByRecursion (λ x. is_same_node n x ≡ false) (those_of (others n) ns)
        → AllByRecursion (λ x. is_same_node n x ≡ false)
        (if not b then m ∷ those_of (others n) ns else those_of (others n) ns)
    decided true is later = later
    decided false is later = (is, later)

those-differ : (p : Node → Bool) (n : Node) (ns : List Node)
    → AllByRecursion (λ m. is_same_node n m ≡ false) ns
    → AllByRecursion (λ m. is_same_node n m ≡ false) (those_of p ns)
those-differ p n [] differ = tt
those-differ p n (m ∷ ns) differ = decided (p m) (those-differ p n ns differ.1)
  where
    decided : (b : Bool) → AllByRecursion (λ x. is_same_node n x ≡ false) (those_of p ns)
        → AllByRecursion (λ x. is_same_node n x ≡ false)
        (if b then m ∷ those_of p ns else those_of p ns)
    decided true later = (differ.0, later)
    decided false later = later

those-apart : (p : Node → Bool) (ns : List Node) → AreApart ns
    → AreApart (those_of p ns)
those-apart p [] differ = tt
those-apart p (n ∷ ns) differ = decided (p n) (those-apart p ns differ.1)
  where
    decided : (b : Bool) → AreApart (those_of p ns)
        → AreApart (if b then n ∷ those_of p ns else those_of p ns)
    decided true later = (those-differ p n ns differ.0, later)
    decided false later = later

apart : (ns : List Node) → AreApart (without_repeats ns)
apart [] = tt
apart (n ∷ ns) = (
  others-differ n (without_repeats ns),
  those-apart (others n) (without_repeats ns) (apart ns),
)

pub repeated : (ns : List Node) → without_repeats (without_repeats ns) ≡ without_repeats ns
repeated ns = unchanged (without_repeats ns) (apart ns)

there-among_others : (n x : Node) (ns : List Node) → is_same_node x n ≡ false
    → is_there (those_of (others n) ns) x ≡ is_there ns x
there-among_others n x [] other = refl
there-among_others n x (m ∷ ns) other =
    decided (is_same_node n m) refl (there-among_others n x ns other)
  where
    decided : (b : Bool) → is_same_node n m ≡ b
        → is_there (those_of (others n) ns) x ≡ is_there ns x
        → is_there (if not b then m ∷ those_of (others n) ns else those_of (others n) ns) x
        ≡ (is_same_node x m || is_there ns x)
    decided true is later =
        let away : is_same_node x m ≡ false =
        same-symmetric x m ∙ sym (same-beside n m x is) ∙ same-symmetric n x ∙ other in
        later ∙ ap (λ b. b || is_there ns x) (sym away)
    decided false is later = ap (λ b. is_same_node x m || b) later

same : (ns : List Node) (x : Node) → is_there (without_repeats ns) x ≡ is_there ns x
same [] x = refl
same (n ∷ ns) x = decided (is_same_node x n) refl (same ns x)
  where
    left : List Node
    left = without_repeats ns

    decided : (b : Bool) → is_same_node x n ≡ b → is_there left x ≡ is_there ns x
        → (b || is_there (those_of (others n) left) x) ≡ (b || is_there ns x)
    decided true is later = refl
    decided false is later = there-among_others n x left is ∙ later

pub own : (ns : List Node) → All (Contains ns) (without_repeats ns)
own [] = All-nil (Contains [])
own (n ∷ ns) =
    All-cons (Contains (n ∷ ns)) n (those_of (others n) (without_repeats ns))
    (0, omega arith, refl)
    (All-filter (others n) (Contains (n ∷ ns)) (without_repeats ns)
    (All-weaker (Contains ns) (Contains (n ∷ ns)) (λ m is. Contains-append_right (n ∷ []) ns m is)
    (without_repeats ns) (own ns)))

first : (ns : List Node) (n : Node)
    → without_repeats (ns ++ n ∷ []) ≡ without_repeats ns ++ (if is_there ns n then [] else n ∷ [])
first [] n = refl
first (m ∷ ns) n =
    let left = without_repeats ns in
    let last : List Node = if is_there ns n then [] else n ∷ [] in
    ap (λ t. m ∷ t)
    (ap (those_of (others m)) (first ns n) ∙ filter-append (others m) left last
    ∙ ap (λ t. those_of (others m) left ++ t)
    (decided (is_there ns n) (is_same_node m n) refl
    ∙ ap (λ b. if b || is_there ns n then [] else n ∷ []) (same-symmetric m n)))
  where
    decided : (b c : Bool) → is_same_node m n ≡ c
        → those_of (others m) (if b then [] else n ∷ []) ≡ (if c || b then [] else n ∷ [])
    decided true true is = refl
    decided true false is = refl
    decided false true is = ap (λ x. if not x then n ∷ [] else []) is
    decided false false is = ap (λ x. if not x then n ∷ [] else []) is

pub distinct_law : DistinctIsExact
distinct_law =
    record { same = same; own = own; apart = apart; first = first; unchanged = unchanged }
