-- What spells a character or a category is read as it: for the elements of classes, and for atoms.
use Rattle.std.proofs.Common.{◌≡◌, ℕ, true, false, [], ◌∷◌, Option}
use Rattle.std.proofs.Common.{Some, None, refl, sym, ap, ◌∙◌, subst}
use Rattle.std.specs.Prelude.{codes}
use Rattle.std.specs.Char.{is_ascii_alphabetic}
use Rattle.jp_reading.specs.Characters as char
use Rattle.jp_reading.specs.Forms.{◌⌢◌, word, One}
use Rattle.jp_reading.specs.Outcome.{State, took, head, past, passes, is, is_at}
use Rattle.jp_reading.proofs.States.Steps.{take_if-takes, is-other, is_at-other}
use Rattle.jp_reading.proofs.States.Between.{Reads, reads-then, reads-is}
use Rattle.jp_reading.proofs.States.Again.{split-word, split, word-first, one-first}
use Rattle.jp_reading.proofs.States.Again.{again-take_if, again-expect, at-word, past-word}
use Rattle.jp_iregexp.specs.declared.category.Category.{Category}
use Rattle.jp_iregexp.specs.declared.class.ClassElement.{ClassElement}
use Rattle.jp_iregexp.specs.declared.class.ClassElement.TheVariants as element
use Rattle.jp_iregexp.specs.Characters.{PatternCharacter, itself, escaped, is_plain, is_escaped}
use Rattle.jp_iregexp.specs.Characters.{meant}
use Rattle.jp_iregexp.specs.Codes.{letters}
use Rattle.jp_iregexp.specs.Private.CodeReading.{pair, code_of}
use Rattle.jp_iregexp.specs.Grammar as grammar
use Rattle.jp_iregexp.specs.Grammar.{ClassEscape}
use Rattle.jp_iregexp.specs.Grammar.{Class, one}
use Rattle.jp_iregexp.specs.Private.Reading.{escaped_at, character_at, is_category_sign}
use Rattle.jp_iregexp.specs.Private.Reading.{code_at, category_at, begins_element}
use Rattle.jp_iregexp.proofs.CategoryCodes.{lettered, AreLetters}

-- a character that stands for itself in a class begins an element
pub plain-element : (c : ℕ) → is_plain c ≡ true → begins_element c ≡ true
unfolding is_plain
plain-element c h = rw (
  is-other is_plain c char.hyphen h refl,
  is-other is_plain c char.closing_bracket h refl,
) refl

-- and is no `\`
pub plain-no-backslash : (c : ℕ) → is_plain c ≡ true → is char.backslash c ≡ false
unfolding is_plain
plain-no-backslash c h = is-other is_plain c char.backslash h refl

-- no character after `\` begins a category there
pub escaped-no-sign : (e : ℕ) → is_escaped e ≡ true → is_category_sign e ≡ false
unfolding is_escaped
escaped-no-sign e h = rw (
  is-other is_escaped e char.letter_p h refl,
  is-other is_escaped e char.capital_p h refl,
) refl

-- after the `\`
pub again-escaped : (e : ℕ) (p q : State) → Reads (One is_escaped e) p q
    → escaped_at p ≡ took (meant e) q
unfolding escaped_at
again-escaped e p q h = rw (again-take_if is_escaped e p q h) refl

character-itself : (c : ℕ) (p q : State) → Reads (One is_plain c) p q → character_at p ≡ took c q
unfolding character_at is_plain
character-itself c p q h =
    rw (is_at-other is_plain c char.backslash p (one-first is_plain c p q h) h.is.passes refl)
    (again-take_if is_plain c p q h)

character-escaped : (c e : ℕ) (p q : State) → c ≡ meant e
    → Reads (word (codes "\\") ⌢ One is_escaped e) p q → character_at p ≡ took c q
unfolding character_at
character-escaped c e p q is h =
    let parts = split (word (codes "\\")) (One is_escaped e) p q h in
    rw (
      at-word char.backslash [] p parts.middle parts.one,
      past-word char.backslash p parts.middle parts.one,
      is,
    )
    (again-escaped e parts.middle q parts.two)

pub again-character : (c : ℕ) (p q : State) → Reads (PatternCharacter is_plain c) p q
    → character_at p ≡ took c q
again-character c p q h = elim h.is [
  | itself g ↦ character-itself c p q (reads-is (PatternCharacter is_plain c) (One is_plain c) p q h g)
  | escaped e is g ↦
      character-escaped c e p q is
      (reads-is (PatternCharacter is_plain c) (word (codes "\\") ⌢ One is_escaped e) p q h g)
]

-- how a code's letters are read
code-one : (k : Category) (a : ℕ) (p q : State) → Reads (word (a ∷ [])) p q
    → is_ascii_alphabetic a ≡ true → code_of a None ≡ Some k → is_at char.closing_brace q ≡ true
    → code_at p ≡ took k q
unfolding code_at
code-one k a p q h letter found ends =
    rw (
      take_if-takes is_ascii_alphabetic p a (word-first a [] p q h) letter,
      past-word a p q h,
      ends,
      found,
    ) refl

code-two : (k : Category) (a b : ℕ) (p q : State) → Reads (word (a ∷ b ∷ [])) p q
    → is_ascii_alphabetic a ≡ true → is_ascii_alphabetic b ≡ true → code_of a (Some b) ≡ Some k
    → code_at p ≡ took k q
unfolding code_at
code-two k a b p q h first second found =
    let parts = split-word a (b ∷ []) p q h in
    let m = parts.middle in
    rw (
      take_if-takes is_ascii_alphabetic p a (word-first a [] p m parts.one) first,
      past-word a p m parts.one,
      is_at-other is_ascii_alphabetic b char.closing_brace m (word-first b [] m q parts.two) second
          refl,
      take_if-takes is_ascii_alphabetic m b (word-first b [] m q parts.two) second,
      past-word b m q parts.two,
      found,
    ) refl

again-code : (k : Category) (p q : State) → Reads (word (letters k)) p q
    → is_at char.closing_brace q ≡ true
    → code_at p ≡ took k q
again-code k p q h ends =
    let l = lettered k in
    spelled l.first l.second l.first_is l.second_is l.found
    (subst (λ w. Reads (word w) p q) l.are h)
  where
    spelled : (a : ℕ) (b : Option ℕ) → is_ascii_alphabetic a ≡ true → AreLetters b
        → code_of a b ≡ Some k → Reads (word (pair a b)) p q → code_at p ≡ took k q
    spelled a None first second found h = code-one k a p q h first found ends
    spelled a (Some b) first second found h = code-two k a b p q h first second found

-- after the `\`: `p` or `P`, and a code in braces
again-category : (c : ℕ) (k : Category) (p q : State)
    → Reads (word (c ∷ codes "{") ⌢ word (letters k) ⌢ word (codes "}")) p q
    → is_category_sign c ≡ true → category_at p ≡ took (element.Category k (is char.capital_p c)) q
unfolding category_at
again-category c k p q h sign =
    let parts = split (word (c ∷ codes "{")) (word (letters k) ⌢ word (codes "}")) p q h in
    let prefix = split-word c (codes "{") p parts.middle parts.one in
    let suffix = split (word (letters k)) (word (codes "}")) parts.middle q parts.two in
    rw (
      take_if-takes is_category_sign p c (word-first c [] p prefix.middle prefix.one) sign,
      past-word c p prefix.middle prefix.one,
      again-expect char.opening_brace prefix.middle parts.middle prefix.two,
      again-code k parts.middle suffix.middle suffix.one
          (at-word char.closing_brace [] suffix.middle q suffix.two),
      again-expect char.closing_brace suffix.middle q suffix.two,
    ) refl

-- an escape is its `\` and what stands after it
pub record Escaped (x : ClassElement) (p q : State) : Type 0 where
  pub at : is_at char.backslash p ≡ true
  pub sign : passes is_category_sign (head (past p)) ≡ true
  pub is : category_at (past p) ≡ took x q

escape-of : (c : ℕ) (k : Category) (p q : State)
    → Reads (word (char.backslash ∷ c ∷ codes "{") ⌢ word (letters k) ⌢ word (codes "}")) p q
    → is_category_sign c ≡ true → Escaped (element.Category k (is char.capital_p c)) p q
escape-of c k p q h sign =
    let parts = split (word (char.backslash ∷ c ∷ codes "{")) (word (letters k) ⌢ word (codes "}"))
    p q h in
    let prefix = split-word char.backslash (c ∷ codes "{") p parts.middle parts.one in
    let m = prefix.middle in
    let beyond = past-word char.backslash p m prefix.one in
    record {
      at = at-word char.backslash [] p m prefix.one;
      sign =
          ap (λ r. passes is_category_sign (head r)) beyond
          ∙ ap (passes is_category_sign) (word-first c (codes "{") m parts.middle prefix.two)
          ∙ sign;
      is = ap category_at beyond
          ∙ again-category c k m q
          (reads-then (word (c ∷ codes "{")) (word (letters k) ⌢ word (codes "}")) m parts.middle
          q prefix.two parts.two) sign;
    }

pub again-escape : (x : ClassElement) (p q : State) → Reads (ClassEscape x) p q → Escaped x p q
again-escape x p q h = elim h.is [
  | grammar.within k e g ↦
      subst (λ y. Escaped y p q) (sym e)
      (escape-of char.letter_p k p q
      (reads-is (ClassEscape x) (word (codes "\\p{") ⌢ word (letters k) ⌢ word (codes "}")) p q
      h g) refl)
  | grammar.outside k e g ↦
      subst (λ y. Escaped y p q) (sym e)
      (escape-of char.capital_p k p q
      (reads-is (ClassEscape x) (word (codes "\\P{") ⌢ word (letters k) ⌢ word (codes "}")) p q
      h g) refl)
]
