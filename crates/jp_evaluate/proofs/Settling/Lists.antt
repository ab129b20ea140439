-- Lists that are made item by item from others.
use Rattle.std.proofs.Common.{◌≡◌, ◌+◌, ◌++◌, ◌<◌, ◌≤◌, ℕ, List, [], ◌∷◌, drop, length, map}
use Rattle.std.proofs.Common.{slice_index_or, refl, ap, subst, sym, ◌∙◌, append_assoc}
use Rattle.std.proofs.lemmas.List.{append-nil, drop_all, drop_more, map-append}
use Rattle.jp_document.specs.Location.{step_of}
use Rattle.jp_document.specs.Value.{Value}
use Rattle.jp_document.specs.declared.location.Step as code
use Rattle.jp_tree.specs.Tree.{argument_then, arguments, expr_then, exprs, segment_then, segments}
use Rattle.jp_tree.specs.Tree.{selector_then, selectors}
use Rattle.jp_tree.specs.Views.{argument_of, expr_of, segment_of, selector_of}
use Rattle.jp_tree.specs.declared.tree.Argument.{Argument}
use Rattle.jp_tree.specs.declared.tree.Expr.{Expr}
use Rattle.jp_tree.specs.declared.tree.Segment.{Segment}
use Rattle.jp_tree.specs.declared.tree.Selector.{Selector}
use Rattle.jp_evaluate.specs.Private.PathTrees.{step_segment}
use Rattle.jp_evaluate.specs.Private.Settled.{settled_argument, settled_arguments, settled_expr}
use Rattle.jp_evaluate.specs.Private.Settled.{settled_exprs, settled_segment, settled_segments}
use Rattle.jp_evaluate.specs.Private.Settled.{settled_selector, settled_selectors}

-- xs is what g gives of ys up to position i, as f tells it
abbrev pub IsMadeUpTo : {A B C : Type 0} → (A → C) → (B → C) → List A → List B → ℕ → Type 0
IsMadeUpTo f g xs ys i = map f xs ++ map g (drop i ys) ≡ map g ys

pub made_next : {A B C : Type 0} (f : A → C) (g : B → C) (xs : List A) (ys : List B) (i : ℕ) (x : A)
    (y : B) → i < length ys → y ≡ slice_index_or ys i y → f x ≡ g y
    → IsMadeUpTo f g xs ys i → IsMadeUpTo f g (xs ++ x ∷ []) ys (i + 1)
made_next f g xs ys i x y within at same made =
    ap (λ t. t ++ map g (drop (i + 1) ys)) (map-append f xs (x ∷ []))
    ∙ append_assoc (map f xs) (f x ∷ []) (map g (drop (i + 1) ys))
    ∙ ap (λ z. map f xs ++ z ∷ map g (drop (i + 1) ys)) same
    ∙ ap (λ t. map f xs ++ map g t)
    (sym (drop_more ys i y within ∙ ap (λ z. z ∷ drop (i + 1) ys) (sym at)))
    ∙ made

pub made_all : {A B C : Type 0} (f : A → C) (g : B → C) (xs : List A) (ys : List B) (i : ℕ)
    → length ys ≤ i → IsMadeUpTo f g xs ys i → map f xs ≡ map g ys
made_all f g xs ys i past made =
    sym (append-nil (map f xs))
    ∙ ap (λ t. map f xs ++ map g t) (sym (drop_all i ys past))
    ∙ made

-- ---- the lists of a tree

pub exprs_settled : (d : Value) (es : List Expr)
    → exprs (map (λ e. settled_expr d (expr_of e)) es) ≡ settled_exprs d (exprs (map expr_of es))
exprs_settled d [] = refl
exprs_settled d (e ∷ es) = ap (expr_then (settled_expr d (expr_of e))) (exprs_settled d es)

pub arguments_settled : (d : Value) (xs : List Argument)
    → arguments (map (λ x. settled_argument d (argument_of x)) xs)
    ≡ settled_arguments d (arguments (map argument_of xs))
arguments_settled d [] = refl
arguments_settled d (x ∷ xs) =
    ap (argument_then (settled_argument d (argument_of x))) (arguments_settled d xs)

pub selectors_settled : (d : Value) (ss : List Selector)
    → selectors (map (λ s. settled_selector d (selector_of s)) ss)
    ≡ settled_selectors d (selectors (map selector_of ss))
selectors_settled d [] = refl
selectors_settled d (s ∷ ss) =
    ap (selector_then (settled_selector d (selector_of s))) (selectors_settled d ss)

pub segments_settled : (d : Value) (ss : List Segment)
    → segments (map (λ s. settled_segment d (segment_of s)) ss)
    ≡ settled_segments d (segments (map segment_of ss))
segments_settled d [] = refl
segments_settled d (s ∷ ss) =
    ap (segment_then (settled_segment d (segment_of s))) (segments_settled d ss)

-- ---- what a push makes

pub made_push : {A B C : Type 0} (f : A → C) (g : B → C) (xs : List A) (ys : List B) (i : ℕ) (x : A)
    (y : B) (zs : List A) → zs ≡ xs ++ x ∷ [] → i < length ys → y ≡ slice_index_or ys i y
    → f x ≡ g y → IsMadeUpTo f g xs ys i → IsMadeUpTo f g zs ys (i + 1)
made_push f g xs ys i x y zs pushed within at same made =
    subst (λ t. IsMadeUpTo f g t ys (i + 1)) (sym pushed)
    (made_next f g xs ys i x y within at same made)

-- ---- the segments of a path

pub path_made : (ks : List code.Step)
    → map (λ k. step_segment (step_of k)) ks ≡ map step_segment (map step_of ks)
path_made [] = refl
path_made (k ∷ ks) = ap (λ t. step_segment (step_of k) ∷ t) (path_made ks)
