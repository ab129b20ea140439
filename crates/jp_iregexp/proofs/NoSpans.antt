-- A pattern has no components, so its text has no spans: for whole texts.
use Rattle.std.proofs.Common.{◌≡◌, ℕ, List, [], Option, Bool, zero, suc}
use Rattle.jp_reading.specs.Texts.{Text, Spans}
use Rattle.jp_reading.proofs.Forms.Bare.{Bare, bare-word, bare-one, bare-joined}
use Rattle.jp_reading.proofs.Forms.Bare.{bare-each, bare-separated}
use Rattle.jp_reading.specs.Forms.{Form, One, Each}
use Rattle.jp_iregexp.specs.declared.class.ClassElement.{ClassElement}
use Rattle.jp_iregexp.specs.Characters.{PatternCharacter, itself, escaped}
use Rattle.jp_iregexp.specs.Tree.{Tree}
use Rattle.jp_iregexp.specs.Grammar as grammar
use Rattle.jp_iregexp.specs.Grammar.{ClassEscape, Element, First, Last}
use Rattle.jp_iregexp.specs.Grammar.{Elements, Class, QuantExact, Most, Quantifier}
use Rattle.jp_iregexp.specs.Grammar.{Atom, Piece, Branch, Branches, Grouped}

bare-character : (plain : ℕ → Bool) (c : ℕ) → Bare (PatternCharacter plain c)
bare-character plain c s o t (itself h) = h.none
bare-character plain c s o t (escaped e is h) =
    bare-joined _ (One _ e) (bare-word _) (bare-one _ e) s o t h

bare-escape : (x : ClassElement) → Bare (ClassEscape x)
bare-escape x s o t (grammar.within k e h) =
    bare-joined _ _ (bare-word _) (bare-joined _ _ (bare-word _) (bare-word _)) s o t h
bare-escape x s o t (grammar.outside k e h) =
    bare-joined _ _ (bare-word _) (bare-joined _ _ (bare-word _) (bare-word _)) s o t h

bare-element : (x : ClassElement) → Bare (Element x)
bare-element x s o t (grammar.single c e h) = bare-character _ c s o t h
bare-element x s o t (grammar.range c d e order h) =
    bare-joined _ _ (bare-character _ c) (bare-joined _ _ (bare-word _) (bare-character _ d))
    s o t h
bare-element x s o t (grammar.class_escape h) = bare-escape x s o t h

bare-first : (x : ClassElement) → Bare (First x)
bare-first x s o t (grammar.first_hyphen h) = h.is.none
bare-first x s o t (grammar.first_element h) = bare-element x s o t h

bare-last : (xs : List ClassElement) → Bare (Last xs)
bare-last xs s o t (grammar.no_hyphen e h) = h.none
bare-last xs s o t (grammar.last_hyphen x e h) = h.is.none

bare-all_elements : (xs : List ClassElement) → Bare (Elements xs)
bare-all_elements xs s o t h =
    bare-joined (First h.first) _ (bare-first h.first)
    (bare-joined (Each Element h.others) (Last h.last) (bare-each Element bare-element h.others)
    (bare-last h.last)) s o t h.is

bare-class : (x : Tree) → Bare (Class x)
bare-class x s o t (grammar.plain xs e h) =
    bare-joined _ _ (bare-word _)
    (bare-joined _ _ (λ s o t g. bare-all_elements xs s o t g.is) (bare-word _)) s o t h
bare-class x s o t (grammar.negated xs e h) =
    bare-joined _ _ (bare-word _) (bare-joined _ _ (bare-all_elements xs) (bare-word _)) s o t h

bare-number : (n : ℕ) → Bare (QuantExact n)
bare-number n s o t h = h.is.none

bare-most : (n : ℕ) (m : Option ℕ) → Bare (Most n m)
bare-most n m s o t (grammar.exactly e h) = h.none
bare-most n m s o t (grammar.from e h) = h.none
bare-most n m s o t (grammar.to k e order h) = bare-joined _ _ (bare-word _) (bare-number k) s o t h

bare-quantifier : (n : ℕ) (m : Option ℕ) → Bare (Quantifier n m)
bare-quantifier n m s o t (grammar.any e f h) = h.none
bare-quantifier n m s o t (grammar.some e f h) = h.none
bare-quantifier n m s o t (grammar.optional e f h) = h.none
bare-quantifier n m s o t (grammar.braces h) =
    bare-joined _ _ (bare-word _)
    (bare-joined _ _ (bare-number n) (bare-joined _ _ (bare-most n m) (bare-word _))) s o t h

module _ (Group : Tree → Form) (bare : (x : Tree) → Bare (Group x)) where
  bare-atom : (x : Tree) → Bare (Atom Group x)
  bare-atom x s o t (grammar.character c e h) = bare-character _ c s o t h
  bare-atom x s o t (grammar.anything e h) = h.none
  bare-atom x s o t (grammar.category i e h) = bare-escape i s o t h
  bare-atom x s o t (grammar.brackets h) = bare-class x s o t h
  bare-atom x s o t (grammar.group h) =
      bare-joined _ _ (bare-word _) (bare-joined _ _ (bare x) (bare-word _)) s o t h

  bare-piece : (x : Tree) → Bare (Piece Group x)
  bare-piece x s o t (grammar.once h) = bare-atom x s o t h
  bare-piece x s o t (grammar.repeated a least most e h) =
      bare-joined _ _ (bare-atom a) (bare-quantifier least most) s o t h

  bare-branch : (x : Tree) → Bare (Branch Group x)
  bare-branch x s o t h = bare-each (Piece Group) bare-piece h.parts s o t h.is

  bare-branches : (x : Tree) → Bare (Branches Group x)
  bare-branches x s o t h =
      bare-separated _ (Branch Group) (bare-word _) bare-branch h.parts s o t h.is

bare-inside : (n : ℕ) (x : Tree) → Bare (Grouped n x)
bare-inside zero x s o t h = elim h [ ]
bare-inside (suc n) x s o t h = bare-branches (Grouped n) (bare-inside n) x s o t h

-- the spans of a pattern
pub no-spans : (n : ℕ) (x : Tree) (s : Spans) (o : ℕ) (t : Text) → Branches (Grouped n) x s o t
    → s ≡ []
no-spans n x s o t h = bare-branches (Grouped n) (bare-inside n) x s o t h
