-- What each variant of a pattern holds: it is smaller, and the pattern's tree is made of its tree.
use Rattle.std.proofs.Common.{◌≡◌, ◌<◌, ℕ, Option, Box, Vec, Global, List, map, sym, ap, ◌∙◌, arith}
use denote.Param.Weighed.{most}
use Rattle.jp_iregexp.proofs.pattern.Pattern.TheLaws.{the_size}
use Rattle.jp_iregexp.specs.declared.pattern.Pattern.{Pattern}
use Rattle.jp_iregexp.specs.declared.pattern.Pattern.TheVariants as pattern
use Rattle.jp_iregexp.specs.declared.pattern.Pattern.TheViews.{sized-Either, sized-Sequence}
use Rattle.jp_iregexp.specs.declared.pattern.Pattern.TheViews.{sized-Repeat}
use Rattle.jp_iregexp.specs.Tree.{tree, branches, pieces, repeat}
use Rattle.jp_iregexp.proofs.Trees.{tree_either, tree_sequence, tree_repeat}

pub record IsEither (p : Pattern) (ps : List Pattern) : Type 0 where
  pub smaller : most the_size ps < the_size p
  pub same : tree p ≡ branches (map tree ps)

pub either_is : (p : Pattern) (v : Vec Pattern Global) (ps : List Pattern)
    → p ≡ pattern.Either v → ps ≡ v.items → IsEither p ps
either_is p v ps is items = record {
  smaller = omega (arith, ap the_size is, sized-Either v, ap (most the_size) items);
  same = ap tree is ∙ tree_either v ∙ ap (λ q. branches (map tree q)) (sym items);
}

pub record IsSequence (p : Pattern) (ps : List Pattern) : Type 0 where
  pub smaller : most the_size ps < the_size p
  pub same : tree p ≡ pieces (map tree ps)

pub sequence_is : (p : Pattern) (v : Vec Pattern Global) (ps : List Pattern)
    → p ≡ pattern.Sequence v → ps ≡ v.items → IsSequence p ps
sequence_is p v ps is items = record {
  smaller = omega (arith, ap the_size is, sized-Sequence v, ap (most the_size) items);
  same = ap tree is ∙ tree_sequence v ∙ ap (λ q. pieces (map tree q)) (sym items);
}

pub record IsRepeat (p inner : Pattern) (least : ℕ) (most : Option ℕ) : Type 0 where
  pub smaller : the_size inner < the_size p
  pub same : tree p ≡ repeat (tree inner) least most

pub repeat_is : (p : Pattern) (box : Box Pattern Global) (least : ℕ) (most : Option ℕ) (inner :
    Pattern) → p ≡ pattern.Repeat box least most → inner ≡ box.value
    → IsRepeat p inner least most
repeat_is p box least most inner is value = record {
  smaller = omega (arith, ap the_size is, sized-Repeat box least most, ap the_size value);
  same = ap tree is ∙ tree_repeat box least most ∙ ap (λ q. repeat (tree q) least most) (sym value);
}
