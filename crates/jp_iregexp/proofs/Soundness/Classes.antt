-- The classes that the reader takes have the forms of their values: for the atoms of patterns.
use Rattle.std.proofs.Common.{◌≡◌, ◌≢◌, ℕ, Bool, true, false, nat_lt, eq-eqb}
use Rattle.std.proofs.Common.{◌&&◌, not, List, [], ◌∷◌, ◌++◌, Some, inl, inr}
use Rattle.std.proofs.Common.{refl, sym, ap, ◌∙◌, subst, append-nil, arith}
use Rattle.std.specs.Prelude.{codes}
use Rattle.std.proofs.lemmas.Bool.{and_parts, cases_Bool}
use Rattle.std.proofs.lemmas.Bool.Decides.{nat_tests}
use Rattle.jp_reading.specs.Characters as char
use Rattle.jp_reading.specs.Texts.{Text, Spans}
use Rattle.jp_reading.specs.Forms.{◌⌢◌, word, Each}
use Rattle.jp_reading.specs.Outcome.{State, took, stuck, ◌>>=◌, head}
use Rattle.jp_reading.specs.Texts.{first_of}
use Rattle.jp_reading.specs.Outcome.{past, passes, is, is_at, expect}
use Rattle.jp_reading.specs.Views.{outcome_map, with_prefix}
use Rattle.jp_reading.proofs.States.Between.{Reads, reads-then, reads-as}
use Rattle.jp_reading.proofs.States.Fits.{reads-words, reads-next, Fits, fits-then, fits-if}
use Rattle.jp_reading.proofs.States.Fits.{fits-map, fits-as, reads-nothing, fits-expect, fits-each}
use Rattle.jp_iregexp.specs.declared.class.ClassElement.{ClassElement}
use Rattle.jp_iregexp.specs.declared.class.ClassElement.TheVariants as element
use Rattle.jp_iregexp.specs.Characters.{PatternCharacter, is_plain}
use Rattle.jp_iregexp.specs.Tree.{class}
use Rattle.jp_iregexp.specs.Grammar as grammar
use Rattle.jp_iregexp.specs.Grammar.{ClassEscape, Hyphen, Element, First, Last, Elements}
use Rattle.jp_iregexp.specs.Grammar.{NotAtCaret, Class, one}
use Rattle.jp_iregexp.specs.Private.Reading.{character_at, is_category_sign, category_at}
use Rattle.jp_iregexp.specs.Private.Reading.{is_at_category, range_at, element_at}
use Rattle.jp_iregexp.specs.Private.Reading.{begins_element, elements_at, hyphen_at}
use Rattle.jp_iregexp.specs.Private.Reading.{first_at, last_at, all_elements_at, class_at}
use Rattle.jp_iregexp.proofs.Soundness.Characters.{fits-character, fits-category}

fits-range : (c : ℕ) (p q : State) → Reads (PatternCharacter is_plain c) p q
    → Fits Element p (range_at c q)
unfolding range_at
fits-range c p q first =
    fits-if Element (is_at char.hyphen q && not (is_at char.closing_bracket (past q))) p _
    (took (element.Range c c) q)
    (λ h. let beyond = reads-next char.hyphen q
    (and_parts (is_at char.hyphen q) (not (is_at char.closing_bracket (past q))) h).0 in
    fits-then (PatternCharacter is_plain) Element p (past q) (character_at (past q)) _
    (fits-character (past q))
    (λ d r two. fits-if Element (nat_lt d c) p (stuck r) (took (element.Range c d) r) (λ less. tt)
    (λ more. reads-as (PatternCharacter is_plain c ⌢ word (codes "-") ⌢ PatternCharacter is_plain d)
    (Element (element.Range c d)) p r
    (λ s o t g. grammar.range c d refl (grind (arith, nat_tests)) g)
    (reads-then (PatternCharacter is_plain c) (word (codes "-") ⌢ PatternCharacter is_plain d) p q r first
    (reads-then (word (codes "-")) (PatternCharacter is_plain d) q (past q) r beyond two)))))
    (λ h. reads-as (PatternCharacter is_plain c) (Element (element.Range c c)) p q
    (λ s o t g. grammar.single c refl g) first)

fits-element : (p : State) → Fits Element p (element_at p)
unfolding element_at
fits-element p =
    fits-if Element (is_at_category p) p (category_at (past p))
    (character_at p >>= λ c q. range_at c q)
    (λ h. fits-as ClassEscape Element p (category_at (past p)) (λ x s o t g. grammar.class_escape g)
    (fits-category p (past p)
    (reads-next char.backslash p (and_parts (is_at char.backslash p)
    (passes is_category_sign (head (past p))) h).0)))
    (λ h. fits-then (PatternCharacter is_plain) Element p p (character_at p) (λ c q. range_at c q)
    (fits-character p) (λ c q one. fits-range c p q one))

fits-hyphen : (p : State) → Fits Hyphen p (hyphen_at p)
fits-hyphen p =
    fits-then (λ x. word (codes "-")) Hyphen p p (expect char.hyphen p) _
    (fits-expect char.hyphen p)
    (λ x q h. reads-as (word (codes "-")) (Hyphen (element.Range char.hyphen char.hyphen)) p q
    (λ s o t g. record {
      element = refl;
      is = g;
    }) h)

fits-first : (p : State) → Fits First p (first_at p)
fits-first p =
    fits-if First (is_at char.hyphen p) p (hyphen_at p) (element_at p)
    (λ h. fits-as Hyphen First p (hyphen_at p) (λ x s o t g. grammar.first_hyphen g)
    (fits-hyphen p))
    (λ h. fits-as Element First p (element_at p) (λ x s o t g. grammar.first_element g)
    (fits-element p))

-- the elements of a class, part by part
reads-all_elements : (zs : List ClassElement) (x : ClassElement) (xs ys : List ClassElement) (p q r u : State)
    → zs ≡ x ∷ (xs ++ ys) → Reads (First x) p q → Reads (Each Element xs) q r → Reads (Last ys) r u
    → Reads (Elements zs) p u
reads-all_elements zs x xs ys p q r u e a b c =
    reads-as (First x ⌢ Each Element xs ⌢ Last ys) (Elements zs) p u
    (λ s o t g. record { first = x; others = xs; last = ys; are = e; is = g })
    (reads-then (First x) (Each Element xs ⌢ Last ys) p q u a
    (reads-then (Each Element xs) (Last ys) q r u b c))

-- elements after a first one
record AfterFirst (x : ClassElement) (zs : List ClassElement) (s : Spans) (o : ℕ) (t : Text) : Type 0
  where
    others : List ClassElement
    are : zs ≡ x ∷ others
    is : Each Element others s o t

fits-all_elements : (p : State) → Fits Elements p (all_elements_at p)
unfolding all_elements_at
fits-all_elements p =
    fits-then First Elements p p (first_at p) _ (fits-first p)
    (λ x q a. fits-then (AfterFirst x) Elements p q (with_prefix (x ∷ []) (elements_at q))
    (λ zs r. last_at zs r)
    (fits-map (λ xs. x ∷ xs) (Each Element) (AfterFirst x) q q (elements_at q)
    (fits-each Element (λ m. passes begins_element (head m)) element_at fits-element q)
    (λ xs r h. reads-as (Each Element xs) (AfterFirst x (x ∷ xs)) q r (λ s o t g. record {
      others = xs;
      are = refl;
      is = g;
    }) h))
    (λ zs r b. (let xs = b.is.others in
    let each : Reads (Each Element xs) q r =
    record { spans = b.spans; text = b.text; way = b.way; is = b.is.is } in
    fits-if Elements (is_at char.hyphen r) p (outcome_map (λ y. zs ++ y ∷ []) (hyphen_at r)) (took zs r)
    (λ h. fits-map (λ y. zs ++ y ∷ []) Hyphen Elements p r (hyphen_at r) (fits-hyphen r)
    (λ y u c. reads-all_elements (zs ++ y ∷ []) x xs (y ∷ []) p q r u (ap (λ l. l ++ y ∷ []) b.is.are) a
    each (reads-as (Hyphen y) (Last (y ∷ [])) r u (λ s o t g. grammar.last_hyphen y refl g) c)))
    (λ h. reads-all_elements zs x xs [] p q r r (b.is.are ∙ ap (λ l. x ∷ l) (sym (append-nil xs))) a each
    (reads-as (word []) (Last []) r r (λ s o t g. grammar.no_hyphen refl g) (reads-nothing r))))))

-- a text before another begins as both do
begins-not : (c : ℕ) (t u : Text) → passes (is c) (first_of (t ++ u)) ≡ false → first_of t ≢ Some c
begins-not c [] u h e = cc
begins-not c (d ∷ t) u h e =
    let same : d ≡ c = cc in (let on : is c d ≡ true = eq-eqb d c same in cc)

-- the rest of a class
fits-class-rest : (b : Bool) (p q r : State)
    → ((xs : List ClassElement) (u : State) → Reads (Elements xs) r u → (m : State)
    → Reads (word (codes "]")) u m → Reads (Class (class b xs)) p m)
    → Fits Class p (all_elements_at r >>= λ xs u. expect char.closing_bracket u
    >>= λ _ m. took (class b xs) m)
fits-class-rest b p q r build =
    fits-then Elements Class p r (all_elements_at r) _ (fits-all_elements r)
    (λ xs u elements. fits-then (λ x. word (codes "]")) Class p u (expect char.closing_bracket u) _
    (fits-expect char.closing_bracket u)
    (λ y m end. build xs u elements m end))

pub fits-class : (p : State) → Fits Class p (class_at p)
unfolding class_at
fits-class p =
    fits-then (λ x. word (codes "[")) Class p p (expect char.opening_bracket p) _
    (fits-expect char.opening_bracket p)
    (λ x q opening. (elim (cases_Bool (is_at char.caret q)) [
      | inl caret ↦ rw caret (fits-class-rest true p q (past q) (λ xs u elements m end.
          reads-as (word (codes "[^") ⌢ Elements xs ⌢ word (codes "]")) (Class (class true xs)) p m
          (λ s o t g. grammar.negated xs refl g)
          (reads-then (word (codes "[^")) (Elements xs ⌢ word (codes "]")) p (past q) m
          (reads-words (codes "[") (codes "^") p q (past q) opening (reads-next char.caret q caret))
          (reads-then (Elements xs) (word (codes "]")) (past q) u m elements end))))
      | inr none ↦ rw none (fits-class-rest false p q q (λ xs u elements m end.
          reads-as (word (codes "[") ⌢ NotAtCaret xs ⌢ word (codes "]")) (Class (class false xs)) p
          m (λ s o t g. grammar.plain xs refl g)
          (reads-then (word (codes "[")) (NotAtCaret xs ⌢ word (codes "]")) p q m opening
          (reads-then (NotAtCaret xs) (word (codes "]")) q u m
          (record {
            spans = elements.spans;
            text = elements.text;
            way = elements.way;
            is = record {
              begins =
                  begins-not char.caret elements.text u.rest
                  (subst (λ t. passes (is char.caret) (first_of t) ≡ false) elements.way.rest none);
              is = elements.is;
            };
          })
          end))))
    ]))
