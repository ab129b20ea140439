-- The trees of segments, by whether they are child segments with one selector.
use Rattle.std.proofs.Common.{◌≡◌, ◌≢◌, Bool, true, false, List, [], ◌∷◌, Option, Some, None, map}
use Rattle.std.proofs.Common.{length, refl, sym, ap, ap₂, ◌∙◌, arith}
use Rattle.std.specs.List.{slice_get}
use Rattle.std.proofs.lemmas.Option.{same_Some}
use Rattle.jp_tree.proofs.Views.{segment_of-is}
use Rattle.jp_tree.specs.Tree.{SegmentTree, SelectorTree, SelectorTrees, no_selectors, segment}
use Rattle.jp_tree.specs.Tree.{selector_then, selectors}
use Rattle.jp_tree.specs.Views.{segment_of, selector_of}
use Rattle.jp_tree.specs.declared.tree.Segment.{Segment, out-Segment}
use Rattle.jp_tree.specs.declared.tree.Selector.{Selector}

pub only_element : {X : Type 0} (xs : List X) (x : X) → length xs ≡ 1 → Some x ≡ slice_get xs 0
    → xs ≡ x ∷ []
only_element [] x one first = absurd (cc)
only_element (y ∷ []) x one first = ap (λ z. z ∷ []) (sym (same_Some x y first))
only_element (y ∷ z ∷ xs) x one first = absurd (omega arith)

child_with_one : (b : Bool) (xs : List Selector) (x : Selector) → b ≡ false → xs ≡ x ∷ []
    → segment b (selectors (map selector_of xs)) ≡ segment false (selectors (selector_of x ∷ []))
child_with_one b xs x child one =
    ap₂ (λ c ys. segment c (selectors (map selector_of ys))) child one

-- a child segment whose only selector is x
pub only_child : (s : Segment) (x : Selector) → (out-Segment s).descendant ≡ false
    → length (out-Segment s).selectors.items ≡ 1
    → Some x ≡ slice_get (out-Segment s).selectors.items 0
    → segment_of s ≡ segment false (selector_then (selector_of x) no_selectors)
only_child s x child one first =
    segment_of-is s
    ∙ child_with_one (out-Segment s).descendant (out-Segment s).selectors.items x child
    (only_element (out-Segment s).selectors.items x one first)

-- what only child segments with one selector have
pub record IsOfOne {T : Type 0} (f : SegmentTree → Option T) : Type 0 where
  pub descends : (ss : SelectorTrees) → f (segment true ss) ≡ None
  pub empty : f (segment false no_selectors) ≡ None
  pub several : (x y : SelectorTree) (more : SelectorTrees)
      → f (segment false (selector_then x (selector_then y more))) ≡ None

none_of_several : {T : Type 0} (f : SegmentTree → Option T) → IsOfOne f
    → (b : Bool) (xs : List Selector) → length xs ≢ 1
    → f (segment b (selectors (map selector_of xs))) ≡ None
none_of_several f of true xs not = of.descends _
none_of_several f of false [] not = of.empty
none_of_several f of false (x ∷ []) not = absurd (not refl)
none_of_several f of false (x ∷ y ∷ xs) not = of.several _ _ _

-- segments with several selectors or none do not have it
pub not_single : {T : Type 0} (f : SegmentTree → Option T) → IsOfOne f → (s : Segment)
    → length (out-Segment s).selectors.items ≢ 1 → f (segment_of s) ≡ None
not_single f of s not =
    ap f (segment_of-is s)
    ∙ none_of_several f of (out-Segment s).descendant (out-Segment s).selectors.items not

descends : {T : Type 0} (f : SegmentTree → Option T) → IsOfOne f
    → (b : Bool) (ss : SelectorTrees) → b ≡ true → f (segment b ss) ≡ None
descends f of true ss is = of.descends ss
descends f of false ss is = absurd (cc)

-- nor do descendant segments
pub not_child : {T : Type 0} (f : SegmentTree → Option T) → IsOfOne f → (s : Segment)
    → (out-Segment s).descendant ≡ true → f (segment_of s) ≡ None
not_child f of s is = ap f (segment_of-is s) ∙ descends f of (out-Segment s).descendant _ is
