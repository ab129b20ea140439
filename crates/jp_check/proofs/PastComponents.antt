-- The inspection of the components of a query.
use Rattle.std.proofs.Common.{◌≡◌, ◌<◌, ◌+◌, ℕ, suc, List, [], ◌∷◌, ◌++◌, Option}
use Rattle.std.proofs.Common.{length, get_or, drop, map, refl, sym, ap, ◌∙◌, arith}
use Rattle.std.specs.List.{slice_get}
use Rattle.std.proofs.lemmas.List.{drop_more}
use Rattle.jp_tree.specs.declared.tree.Argument.{Argument}
use Rattle.jp_tree.specs.declared.tree.Expr.{Expr}
use Rattle.jp_tree.specs.declared.tree.Expr.TheVariants.{Compare}
use Rattle.jp_tree.specs.declared.tree.Op.{Op}
use Rattle.jp_tree.specs.declared.tree.Operand.{Operand}
use Rattle.jp_query.specs.Components.{QueryComponent, Use, as_argument, argument_components}
use Rattle.jp_query.specs.Components.{arguments_components}
use Rattle.jp_query.specs.Components.{call_components, count, expr_components, exprs_components}
use Rattle.jp_query.specs.Components.{components_of}
use Rattle.jp_query.specs.Components.{operand_components, segment_components}
use Rattle.jp_query.specs.Components.{segments_components, selector_components}
use Rattle.jp_query.specs.Components.{selectors_components}
use Rattle.jp_tree.specs.Tree.{ArgumentTree, literal_argument, query_argument, call_argument}
use Rattle.jp_tree.specs.Tree.{logical_argument, CallTree, call, arguments}
use Rattle.jp_tree.specs.Views.{argument_of, expr_of}
use Rattle.jp_tree.specs.Tree.{exprs, segments, selectors}
use Rattle.jp_tree.specs.Views.{operand_of, segment_of, selector_of}
use Rattle.jp_check.specs.declared.functions.DataType.{DataType}
use Rattle.jp_check.specs.Private.Calls.{arguments_from, wanted_of_call}
use Rattle.jp_check.specs.Private.Inspection.{Progress, fault_of, fault_of_call, fault_of_logical}
use Rattle.jp_check.specs.Private.Inspection.{fault_of_query, past_argument, past_component, past_components}
use Rattle.jp_check.specs.Types.{wanted}
use Rattle.jp_tree.proofs.Views.{expr_of-Compare}

-- components one after another
pub past_components_append : (xs ys : List QueryComponent) (p : Progress)
    → past_components (xs ++ ys) p ≡ past_components ys (past_components xs p)
past_components_append [] ys p = refl
past_components_append (x ∷ xs) ys p = past_components_append xs ys (past_component (fault_of p.profile x) p)

-- past one more part of a list, whose parts' components come one after another
abbrev GoesOn : {A : Type 0} → (A → List QueryComponent) → (List A → List QueryComponent) → Type 0
GoesOn {A} one all =
    (xs : List A) (i : ℕ) (x : A) (end before after : Progress)
    → end ≡ past_components (all (drop i xs)) before → i < length xs → x ≡ get_or xs i x
    → after ≡ past_components (one x) before → end ≡ past_components (all (drop (i + 1) xs)) after

goes-on : {A : Type 0} (one : A → List QueryComponent) (all : List A → List QueryComponent)
    → ((x : A) (xs : List A) → all (x ∷ xs) ≡ one x ++ all xs) → GoesOn one all
goes-on one all cons xs i x end before after whole within here part =
    whole
    ∙ ap (λ ys. past_components (all ys) before)
    (drop_more xs i x within ∙ ap (λ y. y ∷ drop (i + 1) xs) (sym here))
    ∙ ap (λ ys. past_components ys before) (cons x (drop (i + 1) xs))
    ∙ past_components_append (one x) (all (drop (i + 1) xs)) before
    ∙ ap (past_components (all (drop (i + 1) xs))) (sym part)

pub segments-on : GoesOn (λ x. segment_components (segment_of x))
    (λ xs. segments_components (segments (map segment_of xs)))
segments-on =
    goes-on (λ x. segment_components (segment_of x))
    (λ xs. segments_components (segments (map segment_of xs))) (λ x xs. refl)

pub selectors-on : GoesOn (λ x. selector_components (selector_of x))
    (λ xs. selectors_components (selectors (map selector_of xs)))
selectors-on =
    goes-on (λ x. selector_components (selector_of x))
    (λ xs. selectors_components (selectors (map selector_of xs))) (λ x xs. refl)

pub exprs-on : GoesOn (λ x. expr_components (expr_of x)) (λ xs. exprs_components (exprs (map expr_of xs)))
exprs-on =
    goes-on (λ x. expr_components (expr_of x)) (λ xs. exprs_components (exprs (map expr_of xs)))
    (λ x xs. refl)

-- past the left side, then past the right one
pub sides-on : (e : Expr) (left right : Operand) (op : Op) (before between after : Progress)
    → e ≡ Compare left op right
    → between ≡ past_components (operand_components (operand_of left)) before
    → after ≡ past_components (operand_components (operand_of right)) between
    → after ≡ past_components (expr_components (expr_of e)) before
sides-on e left right op before between after is past_left past_right =
    past_right
    ∙ ap (past_components (operand_components (operand_of right))) past_left
    ∙ sym (past_components_append (operand_components (operand_of left)) (operand_components (operand_of right)) before)
    ∙ ap (λ x. past_components (expr_components x) before) (sym (ap expr_of is ∙ expr_of-Compare left right op))

-- the inspection stays in its profile
past_components-profile : (xs : List QueryComponent) (p : Progress) → (past_components xs p).profile ≡ p.profile
past_components-profile [] p = refl
past_components-profile (x ∷ xs) p = past_components-profile xs (past_component (fault_of p.profile x) p)

argument-profile : (want : Option DataType) (x : ArgumentTree) (p : Progress)
    → (past_argument want x p).profile ≡ p.profile
argument-profile want (literal_argument l) p = refl
argument-profile want (query_argument q) p =
    past_components-profile (components_of q) (past_component (fault_of_query q want) p)
argument-profile want (call_argument c) p =
    past_components-profile (call_components c) (past_component (fault_of_call p.profile c want) p)
argument-profile want (logical_argument e) p =
    past_components-profile (expr_components e) (past_component (fault_of_logical want) p)

-- past an argument the same types are wanted of the call's others
pub types-kept : (c : CallTree) (types : List DataType) (want : Option DataType)
    (x : ArgumentTree) (before after : Progress) → types ≡ wanted_of_call before.profile c
    → after ≡ past_argument want x before → types ≡ wanted_of_call after.profile c
types-kept c types want x before after are past =
    are
    ∙ ap (λ profile. wanted_of_call profile c)
    (sym (ap (λ p. p.profile) past ∙ argument-profile want x before))

-- past an argument
past_argument-components : (role : Use) (x : ArgumentTree) (p : Progress)
    → past_argument (wanted p.profile role) x p ≡ past_components (argument_components role x) p
past_argument-components role (literal_argument l) p = refl
past_argument-components role (query_argument q) p = refl
past_argument-components role (call_argument c) p = refl
past_argument-components role (logical_argument e) p = refl

-- past the next of a call's arguments
pub arguments-on : (c : CallTree) (types : List DataType) (want : Option DataType)
    (xs : List Argument) (i : ℕ) (x : Argument) (end before after : Progress)
    → types ≡ wanted_of_call before.profile c → want ≡ slice_get types i
    → end ≡ past_components (arguments_from c i (map argument_of (drop i xs))) before → i < length xs
    → x ≡ get_or xs i x → after ≡ past_argument want (argument_of x) before
    → end ≡ past_components (arguments_from c (i + 1) (map argument_of (drop (i + 1) xs))) after
arguments-on (call name all) types want xs i x end before after are is whole within here part =
    whole
    ∙ ap (λ ys. past_components (arguments_components name i (count all) (arguments (map argument_of ys))) before)
    (drop_more xs i x within ∙ ap (λ y. y ∷ drop (i + 1) xs) (sym here))
    ∙ past_components_append (argument_components (as_argument name i (count all)) (argument_of x))
    (arguments_components name (suc i) (count all) (arguments (map argument_of (drop (i + 1) xs))))
    before
    ∙ ap (past_components
    (arguments_components name (suc i) (count all) (arguments (map argument_of (drop (i + 1) xs)))))
    (sym (past_argument-components (as_argument name i (count all)) (argument_of x) before)
    ∙ ap (λ t. past_argument t (argument_of x) before)
    (sym (is ∙ ap (λ ts. slice_get ts i) are))
    ∙ sym part)
    ∙ ap (λ next. past_components
    (arguments_components name next (count all) (arguments (map argument_of (drop (i + 1) xs)))) after)
    (suc-is i)
  where
    suc-is : (n : ℕ) → suc n ≡ n + 1
    suc-is n = omega arith
