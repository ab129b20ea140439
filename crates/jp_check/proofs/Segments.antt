-- Singular segments.
use Rattle.std.proofs.Common.{◌≡◌, ◌≤◌, Bool, true, false, List, [], ◌∷◌}
use Rattle.std.proofs.Common.{length, map, refl, arith, sym, ap, ◌∙◌}
use Rattle.jp_tree.specs.Singular.{is_single_segment}
use Rattle.jp_tree.specs.Tree.{segment, selectors}
use Rattle.jp_tree.specs.Views.{segment_of, selector_of}
use Rattle.jp_tree.specs.declared.tree.Segment.{Segment, out-Segment}
use Rattle.jp_tree.specs.declared.tree.Selector.{Selector}
use Rattle.jp_tree.proofs.Views.{segment_of-is}

-- a segment with several selectors is not singular
several-trees : (deep : Bool) (ys : List Selector) → 2 ≤ length ys
    → is_single_segment (segment deep (selectors (map selector_of ys))) ≡ false
several-trees true ys h = refl
several-trees false [] h = absurd (omega (arith, h))
several-trees false (y ∷ []) h = absurd (omega (arith, h))
several-trees false (y ∷ z ∷ ys) h = refl

pub several_not_single : (s : Segment) (ys : List Selector) → ys ≡ (out-Segment s).selectors.items
    → 2 ≤ length ys → is_single_segment (segment_of s) ≡ false
several_not_single s ys e h =
    ap is_single_segment (segment_of-is s)
    ∙ ap (λ zs. is_single_segment
    (segment (out-Segment s).descendant (selectors (map selector_of zs)))) (sym e)
    ∙ several-trees (out-Segment s).descendant ys h
