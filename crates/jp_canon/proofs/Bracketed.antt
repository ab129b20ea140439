-- Why the canonical text of selectors between brackets, or of a name after dots, has the form that
-- the grammar gives it.
use Rattle.std.proofs.Common.{◌≡◌, ℕ, List, [], ◌∷◌, ◌++◌, map, refl, sym, ap, codes}
use Rattle.std.specs.List.{AllByRecursion}
use Rattle.jp_reading.specs.Forms.{Blank, Form, word, ◌⌢◌}
use Rattle.jp_reading.specs.Texts.{Spans, Text}
use Rattle.jp_query.specs.Grammar.{Bracket, Member, Nested, Selector, any, member, named, star}
use Rattle.jp_tree.specs.Tree.{SelectorTree, selectors}
use Rattle.jp_canon.specs.Canon.{selector_text, selector_texts, separated}
use Rattle.jp_canon.proofs.Forms.{Has, after-blank, before-blank, both}
use Rattle.jp_canon.proofs.Forms.{has-as, has-equal_tree, has-same, has-separated, has-word}
use Rattle.jp_canon.proofs.Names.{has-quoted}

selector_texts-map : (ys : List SelectorTree) → selector_texts (selectors ys) ≡ map selector_text ys
selector_texts-map [] = refl
selector_texts-map (y ∷ ys) = ap (λ ts. selector_text y ∷ ts) (selector_texts-map ys)

-- the separator between selectors
abbrev pub Comma : Form
Comma = word (codes ",") ⌢ Blank

-- two dots before a text
pub two-dots : {P : Form} {t : Text} → Has P t
    → Has (word (codes ".") ⌢ word (codes ".") ⌢ P) (codes ".." ++ t)
two-dots h = both (has-word (codes ".")) (both (has-word (codes ".")) h)

-- what stands after an opening bracket
abbrev pub bracket_text : List SelectorTree → Text
bracket_text ys = separated (codes ",") (selector_texts (selectors ys)) ++ codes "]"

module _ (K : Nested → Form) where
  -- a name or `*` after a dot, as a selector
  pub by-member : (y : SelectorTree) (s : Spans) (o : ℕ) (t : Text) → Member y s o t
      → Has (Selector K y) (selector_text y)
  by-member y s o t (star is h) = has-equal_tree (Selector K) selector_text is
      (has-as (λ r p. any refl) (has-word _))
  by-member y s o t (member cs is h) = has-equal_tree (Selector K) selector_text is
      (has-as (λ r p. named cs refl) (has-quoted cs))

  abbrev pub HasSelector : SelectorTree → Type 0
  HasSelector y = Has (Selector K y ⌢ Blank) (selector_text y)

  pub bracket-of : (y : SelectorTree) (ys : List SelectorTree)
      → AllByRecursion HasSelector (y ∷ ys)
      → Has (Bracket K (y ∷ ys)) (codes "[" ++ bracket_text (y ∷ ys))
  bracket-of y ys all =
      let parts = has-separated Comma (codes ",") (λ z. Selector K z ⌢ Blank) selector_text
      (before-blank (has-word (codes ","))) y ys all in
      both (has-word (codes "["))
      (after-blank
      (both (has-same (ap (separated (codes ",")) (sym (selector_texts-map (y ∷ ys)))) parts)
      (has-word (codes "]"))))

  pub dotted-bracket : (y : SelectorTree) (s : Spans) (o : ℕ) (t : Text) → Member y s o t
      → Has (Bracket K (y ∷ [])) (codes "[" ++ bracket_text (y ∷ []))
  dotted-bracket y s o t h = bracket-of y [] (before-blank (by-member y s o t h), tt)
