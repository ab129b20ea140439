-- The characters and categories that the reader takes have the forms of their values: for those of
-- classes and patterns.
use Rattle.std.proofs.Common.{◌≡◌, ℕ, Bool, true, false, [], ◌∷◌, ◌++◌, Option}
use Rattle.std.proofs.Common.{Some, None, inl, inr, refl, subst, arith}
use Rattle.std.specs.Prelude.{codes}
use Rattle.std.specs.Char.{is_ascii_alphabetic}
use Rattle.std.proofs.lemmas.Bool.{cases_Bool, eqb-true}
use Rattle.std.proofs.lemmas.Bool.Decides.{nat_tests}
use Rattle.jp_reading.specs.Characters as char
use Rattle.jp_reading.specs.Texts.{Text}
use Rattle.jp_reading.specs.Forms.{◌⌢◌, word, One}
use Rattle.jp_reading.specs.Outcome.{State, took, past, passes, is, is_at, take_if, expect}
use Rattle.jp_reading.specs.Views.{outcome_map}
use Rattle.jp_reading.proofs.States.Between.{Reads, reads-then, reads-as}
use Rattle.jp_reading.proofs.States.Fits.{reads-words, reads-next, Fits, fits-then, fits-if}
use Rattle.jp_reading.proofs.States.Fits.{fits-map}
use Rattle.jp_reading.proofs.States.Fits.{fits-as, reads-nothing, fits-take_if, fits-expect}
use Rattle.jp_iregexp.specs.declared.category.Category.{Category}
use Rattle.jp_iregexp.specs.declared.class.ClassElement.TheVariants as element
use Rattle.jp_iregexp.specs.Characters.{PatternCharacter, itself, escaped, is_plain, is_escaped}
use Rattle.jp_iregexp.specs.Characters.{meant}
use Rattle.jp_iregexp.specs.Codes.{letters}
use Rattle.jp_iregexp.specs.Private.CodeReading.{pair, code_of}
use Rattle.jp_iregexp.specs.Grammar as grammar
use Rattle.jp_iregexp.specs.Grammar.{ClassEscape}
use Rattle.jp_iregexp.specs.Grammar.{Class, one}
use Rattle.jp_iregexp.specs.Private.Reading.{there, escaped_at, character_at, is_category_sign}
use Rattle.jp_iregexp.specs.Private.Reading.{second_at, code_at, category_at}
use Rattle.jp_iregexp.proofs.CategoryCodes.{code_of-letters}

pub fits-escaped : (plain : ℕ → Bool) (p q : State) → Reads (word (codes "\\")) p q
    → Fits (PatternCharacter plain) p (escaped_at q)
unfolding escaped_at
fits-escaped plain p q beyond =
    fits-then (One is_escaped) (PatternCharacter plain) p q (take_if is_escaped q)
    (λ e r. took (meant e) r) (fits-take_if is_escaped q)
    (λ e r h. reads-as (word (codes "\\") ⌢ One is_escaped e) (PatternCharacter plain (meant e)) p r
    (λ s o t k. escaped e refl k)
    (reads-then (word (codes "\\")) (One is_escaped e) p q r beyond h))

pub fits-character : (p : State) → Fits (PatternCharacter is_plain) p (character_at p)
unfolding character_at
fits-character p =
    fits-if (PatternCharacter is_plain) (is_at char.backslash p) p (escaped_at (past p))
    (take_if is_plain p)
    (λ h. fits-escaped is_plain p (past p) (reads-next char.backslash p h))
    (λ h. fits-as (One is_plain) (PatternCharacter is_plain) p (take_if is_plain p) (λ c s o t k. itself k)
    (fits-take_if is_plain p))

-- the second letter of a code, where there is one
abbrev second : Option ℕ → Text
second None = []
second (Some b) = b ∷ []

fits-second : (p : State) → Fits (λ b. word (second b)) p (second_at p)
fits-second p =
    fits-if (λ b. word (second b)) (is_at char.closing_brace p) p (took None p)
    (outcome_map Some (take_if is_ascii_alphabetic p))
    (λ h. reads-nothing p)
    (λ h. fits-map Some (One is_ascii_alphabetic) (λ b. word (second b)) p p
    (take_if is_ascii_alphabetic p) (fits-take_if is_ascii_alphabetic p)
    (λ b r k. reads-as (One is_ascii_alphabetic b) (word (b ∷ [])) p r (λ s o t g. record {
      none = g.none;
      is = g.is;
    }) k))

pair-second : (a : ℕ) (b : Option ℕ) → pair a b ≡ a ∷ [] ++ second b
pair-second a None = refl
pair-second a (Some b) = refl

fits-code : (p : State) → Fits (λ k. word (letters k)) p (code_at p)
unfolding code_at
fits-code p =
    fits-then (One is_ascii_alphabetic) (λ k. word (letters k)) p p (take_if is_ascii_alphabetic p)
    _ (fits-take_if is_ascii_alphabetic p)
    (λ a q one. fits-then (λ b. word (second b)) (λ k. word (letters k)) p q (second_at q) _
    (fits-second q)
    (λ b r two. found a b p r (code_of a b) refl
    (reads-words (a ∷ []) (second b) p q r
    (reads-as (One is_ascii_alphabetic a) (word (a ∷ [])) p q (λ s o t g. record {
      none = g.none;
      is = g.is;
    }) one) two)))
  where
    found : (a : ℕ) (b : Option ℕ) (p r : State) (o : Option Category) → code_of a b ≡ o
        → Reads (word (a ∷ [] ++ second b)) p r → Fits (λ k. word (letters k)) p (there o r)
    found a b p r None e h = tt
    found a b p r (Some k) e h = rw (code_of-letters a b k e, pair-second a b) h

sign-is : (c : ℕ) → is_category_sign c ≡ true → is char.capital_p c ≡ false → c ≡ char.letter_p
sign-is c h e = grind (arith, nat_tests)

pub fits-category : (p q : State) → Reads (word (codes "\\")) p q
    → Fits ClassEscape p (category_at q)
unfolding category_at
fits-category p q beyond =
    fits-then (One is_category_sign) ClassEscape p q (take_if is_category_sign q) _
    (fits-take_if is_category_sign q)
    (λ c q1 sign. fits-then (λ x. word (codes "{")) ClassEscape p q1 (expect char.opening_brace q1)
    _
    (fits-expect char.opening_brace q1)
    (λ x q2 brace. fits-then (λ k. word (letters k)) ClassEscape p q2 (code_at q2) _ (fits-code q2)
    (λ k q3 code. fits-then (λ x. word (codes "}")) ClassEscape p q3 (expect char.closing_brace q3)
    _
    (fits-expect char.closing_brace q3)
    (λ y q4 last. escape c k p q1 q2 q3 q4 (sign_of c p q q1 beyond sign).0
    (sign_of c p q q1 beyond sign).1 brace code last))))
  where
    sign_of : (c : ℕ) (p q q1 : State) → Reads (word (codes "\\")) p q
        → Reads (One is_category_sign c) q q1
        → (is_category_sign c ≡ true) × Reads (word (char.backslash ∷ c ∷ [])) p q1
    sign_of c p q q1 h g = (
      g.is.passes,
      reads-words (char.backslash ∷ []) (c ∷ []) p q q1 h
          (reads-as (One is_category_sign c) (word (c ∷ [])) q q1 (λ s o t k. record {
            none = k.none;
            is = k.is;
          }) g),
    )

    escape : (c : ℕ) (k : Category) (p q1 q2 q3 q4 : State) → is_category_sign c ≡ true
        → Reads (word (char.backslash ∷ c ∷ [])) p q1 → Reads (word (codes "{")) q1 q2
        → Reads (word (letters k)) q2 q3 → Reads (word (codes "}")) q3 q4
        → Reads (ClassEscape (element.Category k (is char.capital_p c))) p q4
    escape c k p q1 q2 q3 q4 passes sign brace code last =
        elim (cases_Bool (is char.capital_p c)) [
          | inl h ↦
              rw h
              (reads-as (word (codes "\\P{") ⌢ word (letters k) ⌢ word (codes "}"))
              (ClassEscape (element.Category k true)) p q4 (λ s o t g. grammar.outside k refl g)
              (reads-then (word (codes "\\P{")) (word (letters k) ⌢ word (codes "}")) p q2 q4
              (reads-words (codes "\\P") (codes "{") p q1 q2
              (subst (λ d. Reads (word (char.backslash ∷ d ∷ [])) p q1)
              (eqb-true c char.capital_p h) sign) brace)
              (reads-then (word (letters k)) (word (codes "}")) q2 q3 q4 code last)))
          | inr h ↦
              rw h
              (reads-as (word (codes "\\p{") ⌢ word (letters k) ⌢ word (codes "}"))
              (ClassEscape (element.Category k false)) p q4 (λ s o t g. grammar.within k refl g)
              (reads-then (word (codes "\\p{")) (word (letters k) ⌢ word (codes "}")) p q2 q4
              (reads-words (codes "\\p") (codes "{") p q1 q2
              (subst (λ d. Reads (word (char.backslash ∷ d ∷ [])) p q1) (sign-is c passes h) sign)
              brace)
              (reads-then (word (letters k)) (word (codes "}")) q2 q3 q4 code last)))
        ]
