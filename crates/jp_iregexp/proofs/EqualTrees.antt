-- `==` of two patterns says whether their trees are equal, by induction over the first.
use Rattle.std.proofs.Common.{◌≡◌, ℕ, ◌==◌, Bool, true, false, Decides, Option, None, Some}
use Rattle.std.proofs.Common.{List, [], ◌∷◌, map, refl, sym, ap, subst, ◌∙◌, arith, rules}
use Rattle.std.proofs.lemmas.Bool.Decides.{Decides-and, Decides-eqb, Decides-like}
use Rattle.std.specs.Cmp.{booleans_Decides}
use Rattle.std.specs.Option.{option_eq}
use denote.Enum.Bare.{same_true, true_same}
use denote.Hole.Compared.{compared, compared_is}
use lib.Pointwise.{pointwise}
use Rattle.jp_iregexp.specs.contracts.category.Category.{the_type}
use Rattle.jp_iregexp.specs.contracts.class.ClassElementPartialEq.TheImpl as elements
use Rattle.jp_iregexp.specs.contracts.pattern.PatternPartialEq.TheImpl as patterns
use Rattle.jp_iregexp.specs.contracts.pattern.PatternPartialEq.TheImpl.Laws.{local}
use Rattle.jp_iregexp.specs.declared.class.ClassElement.{ClassElement}
use Rattle.jp_iregexp.specs.declared.class.ClassElement.TheVariants.{Range, Category}
use Rattle.jp_iregexp.specs.declared.pattern.Pattern.{Pattern, roll-Pattern, out-Pattern}
use Rattle.jp_iregexp.specs.declared.pattern.Pattern.TheBlock as block
use Rattle.jp_iregexp.specs.declared.pattern.Pattern.TheBlock.{member-Pattern}
use Rattle.jp_iregexp.specs.declared.pattern.Pattern.TheFolds.{map-Pattern, fold-roll-Pattern}
use Rattle.jp_iregexp.specs.declared.pattern.Pattern.TheFolds.{ind-Pattern}
use Rattle.jp_iregexp.specs.declared.pattern.Pattern.TheOpen.{Pattern-F}
use Rattle.jp_iregexp.specs.declared.pattern.Pattern.TheViews.{out-roll-Pattern, roll-out-Pattern}
use Rattle.jp_iregexp.specs.Tree.{Tree, tree, node_tree, branches, pieces}
use Rattle.jp_iregexp.specs.Tree.{class, nothing, either, empty, sequence, repeat}

-- ---- what holds no pattern

Decides-most : (m n : Option ℕ) → Decides (option_eq (λ x y. x == y) m n) (m ≡ n)
Decides-most None None = (λ h. refl, λ e. refl)
Decides-most (Some x) (Some y) = Decides-like _ (λ e. cc) (λ e. cc) (Decides-eqb x y)
Decides-most _ _ = (λ h. cc, λ e. cc)

Decides-class_element : (x y : ClassElement) → Decides (elements.ghosts.eq x y) (x ≡ y)
Decides-class_element (Range a b) (Range c d) =
    Decides-like _ (λ e. cc) (λ e. (cc, cc)) (Decides-and _ _ (Decides-eqb a c) (Decides-eqb b d))
Decides-class_element (Category c a) (Category d b) =
    Decides-like _ (λ e. cc) (λ e. (cc, cc))
    (Decides-and _ _ (same_true the_type (search rules) c d, true_same the_type c d)
    (booleans_Decides a b))
Decides-class_element _ _ = (λ h. cc, λ e. cc)

Decides-class_elements : (xs ys : List ClassElement)
    → Decides (pointwise elements.ghosts.eq xs ys) (xs ≡ ys)
Decides-class_elements [] [] = (λ h. refl, λ e. refl)
Decides-class_elements (x ∷ xs) (y ∷ ys) =
    Decides-like _ (λ e. cc) (λ e. (cc, cc))
    (Decides-and _ _ (Decides-class_element x y) (Decides-class_elements xs ys))
Decides-class_elements _ _ = (λ h. cc, λ e. cc)

-- ---- trees of one layer

abbrev tree_of : Pattern-F Pattern → Tree
tree_of x = node_tree (map-Pattern Pattern Tree tree x)

tree_is : (x : Pattern-F Pattern) → tree (roll-Pattern x) ≡ tree_of x
unfolding tree
tree_is x = fold-roll-Pattern Tree node_tree x

branches-injective : (xs ys : List Tree) → branches xs ≡ branches ys → xs ≡ ys
branches-injective [] [] e = refl
branches-injective (x ∷ xs) (y ∷ ys) e =
    let rest : xs ≡ ys = branches-injective xs ys cc in cc
branches-injective _ _ e = cc

pieces-injective : (xs ys : List Tree) → pieces xs ≡ pieces ys → xs ≡ ys
pieces-injective [] [] e = refl
pieces-injective (x ∷ xs) (y ∷ ys) e =
    let rest : xs ≡ ys = pieces-injective xs ys cc in cc
pieces-injective _ _ e = cc

-- the variant that a tree is of, as a number
abbrev variant_of : Tree → ℕ
variant_of (class negated items) = 0
variant_of nothing = 1
variant_of (either a others) = 1
variant_of empty = 2
variant_of (sequence a others) = 2
variant_of (repeat a least most) = 3

abbrev variant : Pattern-F Pattern → ℕ
variant (Pattern-F.Class c) = 0
variant (Pattern-F.Either ps) = 1
variant (Pattern-F.Sequence ps) = 2
variant (Pattern-F.Repeat p least most) = 3

variant-branches : (xs : List Tree) → variant_of (branches xs) ≡ 1
variant-branches [] = refl
variant-branches (x ∷ xs) = refl

variant-pieces : (xs : List Tree) → variant_of (pieces xs) ≡ 2
variant-pieces [] = refl
variant-pieces (x ∷ xs) = refl

variant_is : (x : Pattern-F Pattern) → variant_of (tree_of x) ≡ variant x
variant_is (Pattern-F.Class c) = refl
variant_is (Pattern-F.Either ps) = variant-branches (map tree ps.items)
variant_is (Pattern-F.Sequence ps) = variant-pieces (map tree ps.items)
variant_is (Pattern-F.Repeat p least most) = refl

same_variant : (x y : Pattern-F Pattern) → tree_of x ≡ tree_of y → variant x ≡ variant y
same_variant x y e = sym (variant_is x) ∙ ap variant_of e ∙ variant_is y

-- ---- the induction

-- `==` of two patterns, by the inner patterns of which it asks `==` in turn
abbrev equal : (j : block.the_members) → block.the_family j → block.the_family j → Bool
equal = compared block.the_members block.the_family block.the_depth Bool true patterns.the_step

equal_is : (p q : Pattern) → patterns.ghosts.eq p q ≡ patterns.the_step equal member-Pattern p q
equal_is =
    compared_is block.the_members block.the_family block.the_depth Bool true patterns.the_step local
    member-Pattern

-- `==` of the pattern and each other one says whether their trees are equal
abbrev IsDecided : Pattern → Type 0
IsDecided p = (q : Pattern) → Decides (patterns.ghosts.eq p q) (tree p ≡ tree q)

abbrev Decided : Type 0
Decided = (p : Pattern) × IsDecided p

abbrev patterns_of : List Decided → List Pattern
patterns_of ps = map (λ k. k.0) ps

-- one layer whose inner patterns are decided, and those alone
abbrev layer_of : Pattern-F Decided → Pattern-F Pattern
layer_of x = map-Pattern Decided Pattern (λ k. k.0) x

Decides-patterns : (ps : List Decided) (qs : List Pattern)
    → Decides (pointwise patterns.ghosts.eq (patterns_of ps) qs)
    (map tree (patterns_of ps) ≡ map tree qs)
Decides-patterns [] [] = (λ h. refl, λ e. refl)
Decides-patterns (p ∷ ps) (q ∷ qs) =
    Decides-like _ (λ e. cc) (λ e. (cc, cc)) (Decides-and _ _ (p.1 q) (Decides-patterns ps qs))
Decides-patterns _ _ = (λ h. cc, λ e. cc)

-- a `Bool` says whether a fact holds, where an equal one says it of an equivalent fact
said : {P Q : Type 0} {r t : Bool} → Decides t P → (P → Q) → (Q → P) → r ≡ t → Decides r Q
said d f g e = (λ h. f (d.0 (sym e ∙ h)), λ q. e ∙ d.1 (g q))

-- a `Bool` that is false says whether a fact holds that can't
unlike : {Q : Type 0} {r : Bool} → (Q → ⊥) → r ≡ false → Decides r Q
unlike f e = (λ h. cc, λ q. absurd (f q))

Decides-layers : (x : Pattern-F Decided) (y : Pattern-F Pattern)
    → Decides (patterns.the_step equal member-Pattern (roll-Pattern (layer_of x)) (roll-Pattern y))
    (tree_of (layer_of x) ≡ tree_of y)
Decides-layers (Pattern-F.Either ps) (Pattern-F.Either qs) =
    said (Decides-patterns ps.items qs.items) (λ e. ap branches e) (branches-injective _ _)
    (simp out-roll-Pattern)
Decides-layers (Pattern-F.Sequence ps) (Pattern-F.Sequence qs) =
    said (Decides-patterns ps.items qs.items) (λ e. ap pieces e) (pieces-injective _ _)
    (simp out-roll-Pattern)
Decides-layers (Pattern-F.Repeat p least most) (Pattern-F.Repeat q from upto) =
    said
    (Decides-and _ _ (p.value.1 q.value)
    (Decides-and _ _ (Decides-eqb least from) (Decides-most most upto)))
    (λ e. cc) (λ e. (cc, (cc, cc))) (simp out-roll-Pattern)
Decides-layers (Pattern-F.Class c) (Pattern-F.Class d) =
    said
    (Decides-and _ _ (booleans_Decides c.negated d.negated)
    (Decides-class_elements c.elements.items d.elements.items))
    (λ e. cc) (λ e. (cc, cc)) (simp out-roll-Pattern)
Decides-layers x y =
    unlike
    (λ e.
    let same : variant (layer_of x) ≡ variant y = same_variant (layer_of x) y e in omega arith)
    (simp out-roll-Pattern)

Decides-rolled : (x : Pattern-F Decided) (y : Pattern-F Pattern)
    → Decides (patterns.ghosts.eq (roll-Pattern (layer_of x)) (roll-Pattern y))
    (tree (roll-Pattern (layer_of x)) ≡ tree (roll-Pattern y))
Decides-rolled x y = rw (equal_is _ _, tree_is (layer_of x), tree_is y) (Decides-layers x y)

Decides-layer : (x : Pattern-F Decided) → IsDecided (roll-Pattern (layer_of x))
Decides-layer x q = rw (← (roll-out-Pattern q)) (Decides-rolled x (out-Pattern q))

pub Decides-pattern : (p : Pattern) → IsDecided p
Decides-pattern =
    ind-Pattern IsDecided (λ x y is. subst (λ z. IsDecided (roll-Pattern z)) is (Decides-layer y))
