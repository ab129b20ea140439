-- The trees of patterns, one equation a variant: for the contracts of what reads patterns, and for
-- the matchers.
use Rattle.std.proofs.Common.{◌≡◌, ℕ, Option, List, [], ◌∷◌, ◌++◌, map}
use Rattle.std.proofs.Common.{refl, sym, ap, ◌∙◌, Vec, Box, Global}
use Rattle.jp_iregexp.specs.declared.class.CharClass.{CharClass}
use Rattle.jp_iregexp.specs.declared.pattern.Pattern.{Pattern}
use Rattle.jp_iregexp.specs.declared.pattern.Pattern.TheOpen as one
use Rattle.jp_iregexp.specs.declared.pattern.Pattern.TheVariants as pattern
use Rattle.jp_iregexp.specs.declared.pattern.Pattern.TheVariants.{rolls-Class, rolls-Either}
use Rattle.jp_iregexp.specs.declared.pattern.Pattern.TheVariants.{rolls-Sequence, rolls-Repeat}
use Rattle.jp_iregexp.specs.declared.pattern.Pattern.TheFolds.{fold-roll-Pattern}
use Rattle.jp_iregexp.specs.Tree.{Tree, tree, node_tree, class, repeat, branches, pieces}

pub tree_class : (c : CharClass) → tree (pattern.Class c) ≡ class c.negated c.elements.items
unfolding tree
tree_class c = ap tree (sym (rolls-Class c)) ∙ fold-roll-Pattern Tree node_tree (one.Class c)

pub tree_either : (bs : Vec Pattern Global)
    → tree (pattern.Either bs) ≡ branches (map tree bs.items)
unfolding tree
tree_either bs = ap tree (sym (rolls-Either bs)) ∙ fold-roll-Pattern Tree node_tree (one.Either bs)

pub tree_sequence : (ps : Vec Pattern Global)
    → tree (pattern.Sequence ps) ≡ pieces (map tree ps.items)
unfolding tree
tree_sequence ps =
    ap tree (sym (rolls-Sequence ps)) ∙ fold-roll-Pattern Tree node_tree (one.Sequence ps)

pub tree_repeat : (inner : Box Pattern Global) (least : ℕ) (most : Option ℕ)
    → tree (pattern.Repeat inner least most) ≡ repeat (tree inner.value) least most
unfolding tree
tree_repeat inner least most =
    ap tree (sym (rolls-Repeat inner least most))
    ∙ fold-roll-Pattern Tree node_tree (one.Repeat inner least most)

-- one more tree at the end of a list
pub mapped_push : (ps : List Pattern) (p : Pattern) (xs : List Tree)
    → map tree ps ++ (tree p ∷ xs) ≡ map tree (ps ++ p ∷ []) ++ xs
mapped_push [] p xs = refl
mapped_push (q ∷ ps) p xs = ap (λ ys. tree q ∷ ys) (mapped_push ps p xs)
