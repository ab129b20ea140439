-- `==` of two queries says whether their trees are equal, by induction over all the types that a
-- query is made of.
use Rattle.std.proofs.Common.{◌≡◌, refl, sym, ap, subst, ◌∙◌, Bool, true, false, Decides}
use Rattle.std.proofs.lemmas.Bool.Decides.{Decides-and}
use Rattle.std.specs.Cmp.{booleans_Decides}
use denote.Hole.Compared.{compared, compared_is}
use Rattle.jp_tree.specs.contracts.tree.QueryPartialEq.TheImpl as queries
use Rattle.jp_tree.specs.contracts.tree.QueryPartialEq.TheImpl.Laws.{local}
use Rattle.jp_tree.specs.declared.tree.Argument.TheBlock as block
use Rattle.jp_tree.specs.declared.tree.Argument.TheBlock.{member-Argument, member-Expr}
use Rattle.jp_tree.specs.declared.tree.Argument.TheBlock.{member-Operand, member-Selector}
use Rattle.jp_tree.specs.declared.tree.Argument.TheBlock.{member-Subject, member-Call}
use Rattle.jp_tree.specs.declared.tree.Argument.TheBlock.{member-Query, member-Segment}
use Rattle.jp_tree.specs.declared.tree.Argument.TheFolds as folds
use Rattle.jp_tree.specs.declared.tree.Argument.TheOpen.{Argument-F, Expr-F, Operand-F}
use Rattle.jp_tree.specs.declared.tree.Argument.TheOpen.{Selector-F, Subject-F}
use Rattle.jp_tree.specs.declared.tree.Argument.TheViews as views
use Rattle.jp_tree.specs.declared.tree.Query.{Query}
use Rattle.jp_tree.specs.declared.tree.Subject.{Subject}
use Rattle.jp_tree.specs.Tree.{ArgumentTree, CallTree, ExprTree, OperandTree, QueryTree}
use Rattle.jp_tree.specs.Tree.{SegmentTree, SelectorTree, all_of, any_of, arguments, call}
use Rattle.jp_tree.specs.Tree.{call_test, exists, exprs, query, segment, segments, selectors}
use Rattle.jp_tree.specs.Views.{argument_of, argument_layer, call_of, call_layer, expr_of, expr_layer}
use Rattle.jp_tree.specs.Views.{operand_of, operand_layer, query_of, query_layer, segment_of}
use Rattle.jp_tree.specs.Views.{segment_layer, selector_of, selector_layer, subject_of, subject_layer}
use Rattle.jp_tree.proofs.EqualParts.{Decides-op, Decides-literal, Decides-numeral, Decides-slice}
use Rattle.jp_tree.proofs.EqualParts.{Decides-text, Decides-items, any_of-injective}
use Rattle.jp_tree.proofs.EqualParts.{all_of-injective, call-injective, query-injective}
use Rattle.jp_tree.proofs.EqualParts.{segment-injective}

-- ---- a value of each type, its tree and its outermost layer

-- `==` of two values of a type, by the parts of which it asks `==` in turn
abbrev equal : (j : block.the_members) → block.the_family j → block.the_family j → Bool
equal = compared block.the_members block.the_family block.the_depth Bool true queries.the_step

equal_is : (j : block.the_members) (x y : block.the_family j)
    → equal j x y ≡ queries.the_step equal j x y
equal_is =
    compared_is block.the_members block.the_family block.the_depth Bool true queries.the_step local

abbrev Trees : block.the_members → Type 0
Trees =
    folds.family
    ArgumentTree ExprTree OperandTree SelectorTree ExprTree CallTree QueryTree SegmentTree

abbrev tree : (j : block.the_members) → block.the_family j → Trees j
tree member-Argument = argument_of
tree member-Expr = expr_of
tree member-Operand = operand_of
tree member-Selector = selector_of
tree member-Subject = subject_of
tree member-Call = call_of
tree member-Query = query_of
tree member-Segment = segment_of

-- a value of the type, with a value of `A` in place of each part that has one of the types
abbrev LayerOf : block.the_members → (block.the_members → Type 0) → Type 0
LayerOf j A = (block.the_bodies j).Of A

abbrev roll : (j : block.the_members) → LayerOf j block.the_family → block.the_family j
roll member-Argument = views.roll-Argument
roll member-Expr = views.roll-Expr
roll member-Operand = views.roll-Operand
roll member-Selector = views.roll-Selector
roll member-Subject = views.roll-Subject
roll member-Call = views.roll-Call
roll member-Query = views.roll-Query
roll member-Segment = views.roll-Segment

rolled : (j : block.the_members) (x : block.the_family j)
    → (l : LayerOf j block.the_family) × (roll j l ≡ x)
rolled member-Argument x = (views.out-Argument x, views.roll-out-Argument x)
rolled member-Expr x = (views.out-Expr x, views.roll-out-Expr x)
rolled member-Operand x = (views.out-Operand x, views.roll-out-Operand x)
rolled member-Selector x = (views.out-Selector x, views.roll-out-Selector x)
rolled member-Subject x = (views.out-Subject x, views.roll-out-Subject x)
rolled member-Call x = (views.out-Call x, views.roll-out-Call x)
rolled member-Query x = (views.out-Query x, views.roll-out-Query x)
rolled member-Segment x = (views.out-Segment x, views.roll-out-Segment x)

-- the tree of one layer
abbrev layer_tree : (j : block.the_members) → LayerOf j block.the_family → Trees j
layer_tree j x =
    folds.steps
    ArgumentTree ExprTree OperandTree SelectorTree ExprTree CallTree QueryTree SegmentTree
    argument_layer expr_layer operand_layer selector_layer subject_layer call_layer query_layer
    segment_layer j ((block.the_bodies j).map block.the_family Trees tree x)

tree_is : (j : block.the_members) (x : LayerOf j block.the_family)
    → tree j (roll j x) ≡ layer_tree j x
tree_is member-Argument x =
    folds.fold-roll-Argument _ _ _ _ _ _ _ _ _ _ _ _ _ _ _ _ x
    ∙ ap argument_layer (sym (folds.map_is-Argument block.the_family Trees tree x))
tree_is member-Expr x =
    folds.fold-roll-Expr _ _ _ _ _ _ _ _ _ _ _ _ _ _ _ _ x
    ∙ ap expr_layer (sym (folds.map_is-Expr block.the_family Trees tree x))
tree_is member-Operand x =
    folds.fold-roll-Operand _ _ _ _ _ _ _ _ _ _ _ _ _ _ _ _ x
    ∙ ap operand_layer (sym (folds.map_is-Operand block.the_family Trees tree x))
tree_is member-Selector x =
    folds.fold-roll-Selector _ _ _ _ _ _ _ _ _ _ _ _ _ _ _ _ x
    ∙ ap selector_layer (sym (folds.map_is-Selector block.the_family Trees tree x))
tree_is member-Subject x =
    folds.fold-roll-Subject _ _ _ _ _ _ _ _ _ _ _ _ _ _ _ _ x
    ∙ ap subject_layer (sym (folds.map_is-Subject block.the_family Trees tree x))
tree_is member-Call x =
    folds.fold-roll-Call _ _ _ _ _ _ _ _ _ _ _ _ _ _ _ _ x
    ∙ ap call_layer (sym (folds.map_is-Call block.the_family Trees tree x))
tree_is member-Query x =
    folds.fold-roll-Query _ _ _ _ _ _ _ _ _ _ _ _ _ _ _ _ x
    ∙ ap query_layer (sym (folds.map_is-Query block.the_family Trees tree x))
tree_is member-Segment x =
    folds.fold-roll-Segment _ _ _ _ _ _ _ _ _ _ _ _ _ _ _ _ x
    ∙ ap segment_layer (sym (folds.map_is-Segment block.the_family Trees tree x))

-- ---- one layer whose parts are decided

-- `==` of the value and each other one says whether their trees are equal
abbrev IsDecided : (j : block.the_members) → block.the_family j → Type 0
IsDecided j x = (y : block.the_family j) → Decides (equal j x y) (tree j x ≡ tree j y)

abbrev Decided : block.the_members → Type 0
Decided j = (x : block.the_family j) × IsDecided j x

-- the layer with its parts alone, without the proofs
abbrev parts : (j : block.the_members) → LayerOf j Decided → LayerOf j block.the_family
parts j x = (block.the_bodies j).map Decided block.the_family (λ _ k. k.0) x

abbrev AreDecided : (j : block.the_members) → LayerOf j Decided → LayerOf j block.the_family → Type 0
AreDecided j x y =
    Decides (queries.the_step equal j (roll j (parts j x)) (roll j y))
    (layer_tree j (parts j x) ≡ layer_tree j y)

-- a `Bool` says whether a fact holds, where an equal one says it of an equivalent fact
said : {P Q : Type 0} {r t : Bool} → Decides t P → (P → Q) → (Q → P) → r ≡ t → Decides r Q
said d f g e = (λ h. f (d.0 (sym e ∙ h)), λ q. e ∙ d.1 (g q))

-- a `Bool` that is false says whether a fact holds that can't
unlike : {Q : Type 0} {r : Bool} → (Q → ⊥) → r ≡ false → Decides r Q
unlike f e = (λ h. cc, λ q. absurd (f q))

Decides-argument : (x : LayerOf member-Argument Decided) (y : LayerOf member-Argument block.the_family)
    → AreDecided member-Argument x y
Decides-argument (Argument-F.Argument::Literal l) (Argument-F.Argument::Literal m) =
    said (Decides-literal l m) (λ e. cc) (λ e. cc) (simp views.out-roll-Argument)
Decides-argument (Argument-F.Argument::Query p) (Argument-F.Argument::Query q) =
    said (p.1 q) (λ e. cc) (λ e. cc) (simp views.out-roll-Argument)
Decides-argument (Argument-F.Argument::Call c) (Argument-F.Argument::Call d) =
    said (c.1 d) (λ e. cc) (λ e. cc) (simp views.out-roll-Argument)
Decides-argument (Argument-F.Logical e) (Argument-F.Logical f) =
    said (e.1 f) (λ h. cc) (λ h. cc) (simp views.out-roll-Argument)
Decides-argument _ _ = unlike (λ e. cc) (simp views.out-roll-Argument)

-- whether a tree is that of a test
abbrev is_test : ExprTree → Bool
is_test (exists q) = true
is_test (call_test c) = true
is_test _ = false

layer_is_test : (x : LayerOf member-Subject block.the_family)
    → is_test (layer_tree member-Subject x) ≡ true
layer_is_test (Subject-F.Subject::Query q) = refl
layer_is_test (Subject-F.Subject::Call c) = refl

subject_is_test : (s : Subject) → is_test (subject_of s) ≡ true
subject_is_test s =
    let l = rolled member-Subject s in
    ap (λ (t : Subject). is_test (subject_of t)) (sym l.1)
    ∙ ap is_test (tree_is member-Subject l.0)
    ∙ layer_is_test l.0

Decides-expr : (x : LayerOf member-Expr Decided) (y : LayerOf member-Expr block.the_family)
    → AreDecided member-Expr x y
Decides-expr (Expr-F.AnyOf es) (Expr-F.AnyOf fs) =
    said (Decides-items (equal member-Expr) expr_of es.items fs.items)
    (λ e. ap (λ es. any_of (exprs es)) e) (any_of-injective _ _) (simp views.out-roll-Expr)
Decides-expr (Expr-F.AllOf es) (Expr-F.AllOf fs) =
    said (Decides-items (equal member-Expr) expr_of es.items fs.items)
    (λ e. ap (λ es. all_of (exprs es)) e) (all_of-injective _ _) (simp views.out-roll-Expr)
Decides-expr (Expr-F.Not e) (Expr-F.Not f) =
    said (e.value.1 f.value) (λ h. cc) (λ h. cc) (simp views.out-roll-Expr)
Decides-expr (Expr-F.Compare l o r) (Expr-F.Compare l' o' r') =
    said (Decides-and _ _ (l.1 l') (Decides-and _ _ (Decides-op o o') (r.1 r')))
    (λ e. cc) (λ e. (cc, (cc, cc))) (simp views.out-roll-Expr)
Decides-expr (Expr-F.Test s) (Expr-F.Test t) =
    said (s.1 t) (λ e. e) (λ e. e) (simp views.out-roll-Expr)
Decides-expr (Expr-F.Test s) _ =
    unlike (λ e. let h : true ≡ false = sym (subject_is_test s.0) ∙ ap is_test e in cc)
    (simp views.out-roll-Expr)
Decides-expr _ (Expr-F.Test t) =
    unlike (λ e. let h : false ≡ true = ap is_test e ∙ subject_is_test t in cc)
    (simp views.out-roll-Expr)
Decides-expr _ _ = unlike (λ e. cc) (simp views.out-roll-Expr)

Decides-operand : (x : LayerOf member-Operand Decided) (y : LayerOf member-Operand block.the_family)
    → AreDecided member-Operand x y
Decides-operand (Operand-F.Operand::Literal l) (Operand-F.Operand::Literal m) =
    said (Decides-literal l m) (λ e. cc) (λ e. cc) (simp views.out-roll-Operand)
Decides-operand (Operand-F.Operand::Query p) (Operand-F.Operand::Query q) =
    said (p.1 q) (λ e. cc) (λ e. cc) (simp views.out-roll-Operand)
Decides-operand (Operand-F.Operand::Call c) (Operand-F.Operand::Call d) =
    said (c.1 d) (λ e. cc) (λ e. cc) (simp views.out-roll-Operand)
Decides-operand _ _ = unlike (λ e. cc) (simp views.out-roll-Operand)

ruleset selector_rolls = (
  views.rolls-Name,
  views.rolls-Wildcard,
  views.rolls-Index,
  views.rolls-Slice,
  views.rolls-Filter,
)

Decides-selector : (x : LayerOf member-Selector Decided) (y : LayerOf member-Selector block.the_family)
    → AreDecided member-Selector x y
Decides-selector (Selector-F.Name s) (Selector-F.Name t) =
    said (Decides-text s t) (λ e. cc) (λ e. cc) (simp selector_rolls)
Decides-selector Selector-F.Wildcard Selector-F.Wildcard = (λ h. refl, λ e. simp selector_rolls)
Decides-selector (Selector-F.Index m) (Selector-F.Index n) =
    said (Decides-numeral m n) (λ e. cc) (λ e. cc) (simp selector_rolls)
Decides-selector (Selector-F.Slice s) (Selector-F.Slice t) =
    said (Decides-slice s t) (λ e. cc) (λ e. cc) (simp selector_rolls)
Decides-selector (Selector-F.Filter e) (Selector-F.Filter f) =
    said (e.1 f) (λ h. cc) (λ h. cc) (simp selector_rolls)
Decides-selector _ _ = unlike (λ e. cc) (simp selector_rolls)

Decides-subject : (x : LayerOf member-Subject Decided) (y : LayerOf member-Subject block.the_family)
    → AreDecided member-Subject x y
Decides-subject (Subject-F.Subject::Query p) (Subject-F.Subject::Query q) =
    said (p.1 q) (λ e. cc) (λ e. cc) (simp views.out-roll-Subject)
Decides-subject (Subject-F.Subject::Call c) (Subject-F.Subject::Call d) =
    said (c.1 d) (λ e. cc) (λ e. cc) (simp views.out-roll-Subject)
Decides-subject _ _ = unlike (λ e. cc) (simp views.out-roll-Subject)

Decides-call : (x : LayerOf member-Call Decided) (y : LayerOf member-Call block.the_family)
    → AreDecided member-Call x y
Decides-call x y =
    said (Decides-and _ _ (Decides-text x.name y.name)
    (Decides-items (equal member-Argument) argument_of x.arguments.items y.arguments.items))
    (λ e. λ i. call (e.0 i) (arguments (e.1 i))) (call-injective _ _ _ _)
    refl

Decides-query : (x : LayerOf member-Query Decided) (y : LayerOf member-Query block.the_family)
    → AreDecided member-Query x y
Decides-query x y =
    said (Decides-and _ _ (booleans_Decides x.absolute y.absolute)
    (Decides-items (equal member-Segment) segment_of x.segments.items y.segments.items))
    (λ e. λ i. query (e.0 i) (segments (e.1 i))) (query-injective _ _ _ _)
    (simp (views.out-roll-Query (parts member-Query x), views.out-roll-Query y))

Decides-segment : (x : LayerOf member-Segment Decided) (y : LayerOf member-Segment block.the_family)
    → AreDecided member-Segment x y
Decides-segment x y =
    said (Decides-and _ _ (booleans_Decides x.descendant y.descendant)
    (Decides-items (equal member-Selector) selector_of x.selectors.items y.selectors.items))
    (λ e. λ i. segment (e.0 i) (selectors (e.1 i))) (segment-injective _ _ _ _)
    refl

-- ---- the induction

Decides-layers : (j : block.the_members) (x : LayerOf j Decided) (y : LayerOf j block.the_family)
    → AreDecided j x y
Decides-layers member-Argument = Decides-argument
Decides-layers member-Expr = Decides-expr
Decides-layers member-Operand = Decides-operand
Decides-layers member-Selector = Decides-selector
Decides-layers member-Subject = Decides-subject
Decides-layers member-Call = Decides-call
Decides-layers member-Query = Decides-query
Decides-layers member-Segment = Decides-segment

Decides-layer : (j : block.the_members) (x : LayerOf j Decided) → IsDecided j (roll j (parts j x))
Decides-layer j x z =
    let l = rolled j z in
    subst (λ v. Decides (equal j (roll j (parts j x)) v) (tree j (roll j (parts j x)) ≡ tree j v))
    l.1
    (said (Decides-layers j x l.0)
    (λ e. tree_is j (parts j x) ∙ e ∙ sym (tree_is j l.0))
    (λ e. sym (tree_is j (parts j x)) ∙ e ∙ tree_is j l.0)
    (equal_is j (roll j (parts j x)) (roll j l.0)))

Decides-same : (j : block.the_members) (x : LayerOf j block.the_family) (y : LayerOf j Decided)
    → parts j y ≡ x → IsDecided j (roll j x)
Decides-same j x y e = subst (λ z. IsDecided j (roll j z)) e (Decides-layer j y)

pub Decides-queries : (p q : Query) → Decides (queries.ghosts.eq p q) (query_of p ≡ query_of q)
Decides-queries =
    let value : (j : block.the_members) → Decided j → block.the_family j = λ j k. k.0 in
    folds.ind-Query
    (IsDecided member-Argument) (IsDecided member-Expr) (IsDecided member-Operand)
    (IsDecided member-Selector) (IsDecided member-Subject) (IsDecided member-Call)
    (IsDecided member-Query) (IsDecided member-Segment)
    (λ x y e. Decides-same member-Argument x y
    (folds.map_is-Argument Decided block.the_family value y ∙ e))
    (λ x y e. Decides-same member-Expr x y
    (folds.map_is-Expr Decided block.the_family value y ∙ e))
    (λ x y e. Decides-same member-Operand x y
    (folds.map_is-Operand Decided block.the_family value y ∙ e))
    (λ x y e. Decides-same member-Selector x y
    (folds.map_is-Selector Decided block.the_family value y ∙ e))
    (λ x y e. Decides-same member-Subject x y
    (folds.map_is-Subject Decided block.the_family value y ∙ e))
    (λ x y e. Decides-same member-Call x y
    (folds.map_is-Call Decided block.the_family value y ∙ e))
    (λ x y e. Decides-same member-Query x y
    (folds.map_is-Query Decided block.the_family value y ∙ e))
    (λ x y e. Decides-same member-Segment x y
    (folds.map_is-Segment Decided block.the_family value y ∙ e))
