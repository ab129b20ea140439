use Rattle.std.proofs.Common.{◌≡◌, [], ◌∷◌, ◌∙◌, ap, sym}
use Rattle.jp_iregexp.specs.declared.class.ClassElement.TheVariants.{Range}
use Rattle.jp_iregexp.proofs.Trees.{tree_class}
use Rattle.jp_match.proofs.Classes.{only_range}
use Rattle.jp_match.proofs.Texts.OnlyWords.{only_class}
use Rattle.jp_match.proofs.only_words.only_char.Goals as goal

pub returns-in-Range : goal.returns-in-Range
returns-in-Range c =
    let only = only_range c.as_slice.result.now _ _ c.in-len1.len_at_least c.in-len1.len_below
    c.in-Range.is in
    let items : c.in-Class.class.elements.items ≡ Range c.in-Range.first c.in-Range.first ∷ [] = sym
    c.as_slice.ensures.value ∙ only ∙ ap (λ last. Range c.in-Range.first last ∷ []) (sym
    c.if-first-last.true) in
    rw (c.in-Class.is, tree_class, items, c.if-class.false) (only_class c.in-Range.first)
