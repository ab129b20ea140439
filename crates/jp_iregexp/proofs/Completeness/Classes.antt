-- What spells the elements of a class, and a class, is read as them: for the atoms of patterns.
use Rattle.std.proofs.Common.{◌≡◌, ◌≢◌, ℕ, ◌≤◌, Bool, true, false, nat_lt, ◌&&◌, not, List, [], ◌∷◌}
use Rattle.std.proofs.Common.{◌++◌, Some, inl, inr, refl, sym, ap, ◌∙◌, subst, append-nil, arith}
use Rattle.std.specs.Prelude.{codes}
use Rattle.std.proofs.lemmas.Bool.{cases_Bool, eqb-true}
use Rattle.std.proofs.lemmas.Bool.Decides.{nat_tests}
use Rattle.jp_reading.specs.Characters as char
use Rattle.jp_reading.specs.Texts.{Text, Spans}
use Rattle.jp_reading.specs.Forms.{◌⌢◌, word, One, Each}
use Rattle.jp_reading.specs.Outcome.{State, took, head, past}
use Rattle.jp_reading.specs.Texts.{first_of}
use Rattle.jp_reading.specs.Outcome.{past_first, passes, is, is_at, expect}
use Rattle.jp_reading.proofs.States.Steps.{head-is, is_at-other}
use Rattle.jp_reading.proofs.States.Between.{Reads, reads-then, reads-is}
use Rattle.jp_reading.proofs.States.Again.{split-word, Starts, Split, split, reads-none, word-first}
use Rattle.jp_reading.proofs.States.Again.{one-first, again-expect, again-each, at-word, past-word}
use Rattle.jp_iregexp.specs.declared.class.ClassElement.{ClassElement}
use Rattle.jp_iregexp.specs.declared.class.ClassElement.TheVariants as element
use Rattle.jp_iregexp.specs.Characters.{PatternCharacter, itself, escaped, is_plain, is_escaped}
use Rattle.jp_iregexp.specs.Tree.{Tree, class}
use Rattle.jp_iregexp.specs.Grammar as grammar
use Rattle.jp_iregexp.specs.Grammar.{ClassEscape, Hyphen, Element, First, Last, Elements}
use Rattle.jp_iregexp.specs.Grammar.{NotAtCaret, Class, one}
use Rattle.jp_iregexp.specs.Private.Reading.{is_category_sign, is_at_category, range_at}
use Rattle.jp_iregexp.specs.Private.Reading.{element_at, begins_element, elements_at, hyphen_at}
use Rattle.jp_iregexp.specs.Private.Reading.{first_at, last_at, all_elements_at, negation_at, class_at}
use Rattle.jp_iregexp.proofs.Progress.{moves-element}
use Rattle.jp_iregexp.proofs.Completeness.Characters.{plain-element, plain-no-backslash}
use Rattle.jp_iregexp.proofs.Completeness.Characters.{escaped-no-sign}
use Rattle.jp_iregexp.proofs.Completeness.Characters.{again-character, again-escape, Escaped}

-- the text after the first character
abbrev after_first : Text → Text
after_first [] = []
after_first (c ∷ t) = t

-- whether a `-` stands next that does not end the class
abbrev is_inner_hyphen : Text → Bool
is_inner_hyphen t = passes (is char.hyphen) (first_of t)
    && not (passes (is char.closing_bracket) (first_of (after_first t)))

past-after_first : (at : ℕ) (found : Spans) (t : Text) → (past_first at found t).rest
    ≡ after_first t
past-after_first at found [] = refl
past-after_first at found (c ∷ t) = refl

-- what may follow an element
record AfterElement (t : Text) : Type 0 where
  none : is_inner_hyphen t ≡ false

range-off : (q : State) → AfterElement q.rest
    → (is_at char.hyphen q && not (is_at char.closing_bracket (past q))) ≡ false
range-off q h =
    ap (λ t. is_at char.hyphen q && not (passes (is char.closing_bracket) (first_of t)))
    (past-after_first q.at q.found q.rest)
    ∙ h.none

-- where the first character is no `-` nothing goes on
no-hyphen : (t : Text) → passes (is char.hyphen) (first_of t) ≡ false → AfterElement t
no-hyphen t h = record {
  none = ap
      (λ b. b && not (passes (is char.closing_bracket) (first_of (after_first t)))) h;
}

-- where an element begins
record Begins (p : State) : Type 0 where
  first : ℕ
  at : head p ≡ Some first
  is : begins_element first ≡ true

begins-character : (c : ℕ) (p q : State) → Reads (PatternCharacter is_plain c) p q → Begins p
begins-character c p q h = elim h.is [
  | itself g ↦
      plain-begins c
      (one-first is_plain c p q (reads-is (PatternCharacter is_plain c) (One is_plain c) p q h g))
      g.passes
  | escaped e is g ↦
      backslash
      (split (word (codes "\\")) (One is_escaped e) p q
      (reads-is (PatternCharacter is_plain c) (word (codes "\\") ⌢ One is_escaped e) p q h g))
]
  where
    plain-begins : (c : ℕ) → head p ≡ Some c → is_plain c ≡ true → Begins p
    plain-begins c e passes = record { first = c; at = e; is = plain-element c passes }

    backslash : {e : ℕ} → Split (word (codes "\\")) (One is_escaped e) p q → Begins p
    backslash parts =
        record {
          first = char.backslash;
          at = word-first char.backslash [] p parts.middle parts.one;
          is = refl;
        }

-- a character is no category
no-category : (c : ℕ) (p q : State) → Reads (PatternCharacter is_plain c) p q → is_at_category p ≡ false
no-category c p q h = elim h.is [
  | itself g ↦
      plain-none
      (one-first is_plain c p q (reads-is (PatternCharacter is_plain c) (One is_plain c) p q h g))
      g.passes
  | escaped e is g ↦
      escaped-none e
      (split (word (codes "\\")) (One is_escaped e) p q
      (reads-is (PatternCharacter is_plain c) (word (codes "\\") ⌢ One is_escaped e) p q h g))
]
  where
    plain-none : head p ≡ Some c → is_plain c ≡ true → is_at_category p ≡ false
    plain-none e passing =
        ap (λ b. b && passes is_category_sign (head (past p)))
        (ap (passes (is char.backslash)) e ∙ plain-no-backslash c passing)

    escaped-none : (e : ℕ) → Split (word (codes "\\")) (One is_escaped e) p q
        → is_at_category p ≡ false
    escaped-none e parts =
        rw (
          at-word char.backslash [] p parts.middle parts.one,
          past-word char.backslash p parts.middle parts.one,
        )
        (ap (passes is_category_sign) (one-first is_escaped e parts.middle q parts.two)
        ∙ escaped-no-sign e parts.two.is.passes)

range-alone : (c : ℕ) (p : State) → AfterElement p.rest → range_at c p ≡ took (element.Range c c) p
unfolding range_at
range-alone c p h = rw (range-off p h) refl

range-to : (c d : ℕ) (p q : State) → c ≤ d → Reads (word (codes "-") ⌢ PatternCharacter is_plain d) p q
    → range_at c p ≡ took (element.Range c d) q
unfolding range_at
range-to c d p q order h =
    let parts = split (word (codes "-")) (PatternCharacter is_plain d) p q h in
    let m = parts.middle in
    let begins = begins-character d m q parts.two in
    let low : nat_lt d c ≡ false = grind (arith, nat_tests) in
    rw (
      at-word char.hyphen [] p m parts.one,
      past-word char.hyphen p m parts.one,
      is_at-other begins_element begins.first char.closing_bracket m begins.at begins.is refl,
      again-character d m q parts.two,
      low,
    ) refl

element-character : (c : ℕ) (x : ClassElement) (p m q : State) → Reads (PatternCharacter is_plain c) p m
    → range_at c m ≡ took x q → element_at p ≡ took x q
unfolding element_at
element-character c x p m q h e = rw (no-category c p m h, again-character c p m h) e

element-escape : (x : ClassElement) (p q : State) → Escaped x p q → element_at p ≡ took x q
unfolding element_at
element-escape x p q h = rw (h.at, h.sign) h.is

again-element : (x : ClassElement) (p q : State) → Reads (Element x) p q → AfterElement q.rest
    → element_at p ≡ took x q
again-element x p q h after = elim h.is [
  | grammar.single c e g ↦
      element-character c x p q q (reads-is (Element x) (PatternCharacter is_plain c) p q h g)
      (range-alone c q after ∙ ap (λ y. took y q) (sym e))
  | grammar.range c d e order g ↦
      (let parts =
      split (PatternCharacter is_plain c) (word (codes "-") ⌢ PatternCharacter is_plain d) p q
      (reads-is (Element x) (PatternCharacter is_plain c ⌢ word (codes "-") ⌢ PatternCharacter is_plain d) p
      q h g) in
      element-character c x p parts.middle q parts.one
      (range-to c d parts.middle q order parts.two ∙ ap (λ y. took y q) (sym e)))
  | grammar.class_escape g ↦
      element-escape x p q (again-escape x p q (reads-is (Element x) (ClassEscape x) p q h g))
]

begins-element : (x : ClassElement) (p q : State) → Reads (Element x) p q → Begins p
begins-element x p q h = elim h.is [
  | grammar.single c e g ↦
      begins-character c p q (reads-is (Element x) (PatternCharacter is_plain c) p q h g)
  | grammar.range c d e order g ↦
      (let parts =
      split (PatternCharacter is_plain c) (word (codes "-") ⌢ PatternCharacter is_plain d) p q
      (reads-is (Element x) (PatternCharacter is_plain c ⌢ word (codes "-") ⌢ PatternCharacter is_plain d) p
      q h g) in
      begins-character c p parts.middle parts.one)
  | grammar.class_escape g ↦
      (let escape = again-escape x p q (reads-is (Element x) (ClassEscape x) p q h g) in
      record { first = char.backslash; at = head-is char.backslash p escape.at; is = refl })
]

starts-element : Starts Element AfterElement (λ q. passes begins_element (head q))
starts-element x p q h =
    let begins = begins-element x p q h in (
      ap (passes begins_element) begins.at ∙ begins.is,
      no-hyphen p.rest (is_at-other begins_element begins.first char.hyphen p begins.at begins.is
          refl),
    )

again-elements : (xs : List ClassElement) (p q : State) → Reads (Each Element xs) p q
    → passes begins_element (head q) ≡ false → AfterElement q.rest → elements_at p ≡ took xs q
again-elements xs p q h ends after =
    again-each Element AfterElement (λ r. passes begins_element (head r)) element_at moves-element
    again-element starts-element xs p q h ends after

-- what follows an element where others stand
each-after : (xs : List ClassElement) (p q : State) → Reads (Each Element xs) p q
    → AfterElement q.rest → AfterElement p.rest
each-after [] p q h after =
    subst (λ (r : State). AfterElement r.rest) (sym (reads-none p q h)) after
each-after (x ∷ xs) p q h after =
    let parts = split (Element x) (Each Element xs) p q h in
    (starts-element x p parts.middle parts.one).1

-- the end of a class, after these elements
record LastRead (xs ys : List ClassElement) (p q : State) : Type 0 where
  ends : passes begins_element (head p) ≡ false
  after : AfterElement p.rest
  is : last_at xs p ≡ took (xs ++ ys) q

hyphen-read : (x : ClassElement) (p q : State) → Reads (Hyphen x) p q
    → (is_at char.hyphen p ≡ true) × (past p ≡ q) × (hyphen_at p ≡ took x q)
hyphen-read x p q h =
    let w = reads-is (Hyphen x) (word (codes "-")) p q h h.is.is in (
      at-word char.hyphen [] p q w,
      past-word char.hyphen p q w,
      rw
          (again-expect char.hyphen p q w, h.is.element) refl,
    )

last-none : (xs : List ClassElement) (p : State) → is_at char.closing_bracket p ≡ true
    → LastRead xs [] p p
last-none xs p at =
    let e = head-is char.closing_bracket p at in
    record {
      ends = ap (passes begins_element) e;
      after = no-hyphen p.rest (ap (passes (is char.hyphen)) e);
      is = rw (ap (passes (is char.hyphen)) e, append-nil xs) refl;
    }

last-one : (xs : List ClassElement) (x : ClassElement) (p q : State) → Reads (Hyphen x) p q
    → is_at char.closing_bracket q ≡ true → LastRead xs (x ∷ []) p q
last-one xs x p q h at =
    let (hyphen, behind_it, read) = hyphen-read x p q h in
    record {
      ends = ap (passes begins_element) (head-is char.hyphen p hyphen);
      after = record {
        none =
            rw hyphen
            (ap (λ t. not (passes (is char.closing_bracket) (first_of t)))
            (sym (past-after_first p.at p.found p.rest))
            ∙ ap (λ (r : State). not (is_at char.closing_bracket r)) behind_it ∙ ap not at);
      };
      is = rw (hyphen, read) refl;
    }

again-last : (xs ys : List ClassElement) (p q : State) → Reads (Last ys) p q
    → is_at char.closing_bracket q ≡ true
    → LastRead xs ys p q
again-last xs ys p q h at = elim h.is [
  | grammar.no_hyphen e g ↦
      (let same = reads-none p q (reads-is (Last ys) (word []) p q h g) in
      subst (λ l. LastRead xs l p q) (sym e)
      (subst (λ r. LastRead xs [] r q) (sym same) (last-none xs q at)))
  | grammar.last_hyphen x e g ↦
      subst (λ l. LastRead xs l p q) (sym e)
      (last-one xs x p q (reads-is (Last ys) (Hyphen x) p q h g) at)
]

again-first : (x : ClassElement) (p q : State) → Reads (First x) p q → AfterElement q.rest
    → first_at p ≡ took x q
again-first x p q h after = elim h.is [
  | grammar.first_hyphen g ↦
      (let (hyphen, behind_it, read) = hyphen-read x p q (reads-is (First x) (Hyphen x) p q h g) in
      rw hyphen read)
  | grammar.first_element g ↦
      (let element = reads-is (First x) (Element x) p q h g in
      let begins = begins-element x p q element in
      rw (is_at-other begins_element begins.first char.hyphen p begins.at begins.is refl)
      (again-element x p q element after))
]

again-all_elements : (zs : List ClassElement) (p q : State) → Reads (Elements zs) p q
    → is_at char.closing_bracket q ≡ true
    → all_elements_at p ≡ took zs q
unfolding all_elements_at
again-all_elements zs p q h at =
    let x = h.is.first in
    let xs = h.is.others in
    let ys = h.is.last in
    let parts =
    split (First x) (Each Element xs ⌢ Last ys) p q
    (reads-is (Elements zs) (First x ⌢ Each Element xs ⌢ Last ys) p q h h.is.is) in
    let m = parts.middle in
    let tail = split (Each Element xs) (Last ys) m q parts.two in
    let r = tail.middle in
    let last = again-last (x ∷ xs) ys r q tail.two at in
    rw (
      again-first x p m parts.one (each-after xs m r tail.one last.after),
      again-elements xs m r tail.one last.ends last.after,
      last.is,
      h.is.are,
    ) refl

-- elements before the end of the class, where the class begins at p
class-rest : (b : Bool) (xs : List ClassElement) (p m r q : State) → expect char.opening_bracket p
    ≡ took char.opening_bracket m
    → negation_at m ≡ took b r → Reads (Elements xs ⌢ word (codes "]")) r q
    → class_at p ≡ took (class b xs) q
unfolding class_at
class-rest b xs p m r q opening negation h =
    let parts = split (Elements xs) (word (codes "]")) r q h in
    rw (
      opening,
      negation,
      again-all_elements xs r parts.middle parts.one
          (at-word char.closing_bracket [] parts.middle q parts.two),
      again-expect char.closing_bracket parts.middle q parts.two,
    ) refl

-- elements that do not begin with `^` before a `]` do not stand at a `^`
not-caret : (t : Text) (m r : State) → m.rest ≡ t ++ r.rest → first_of t ≢ Some char.caret
    → is_at char.closing_bracket r ≡ true → is_at char.caret m ≡ false
not-caret [] m r e begins at =
    ap (λ u. passes (is char.caret) (first_of u)) e
    ∙ ap (passes (is char.caret)) (head-is char.closing_bracket r at)
not-caret (c ∷ t) m r e begins at =
    ap (λ u. passes (is char.caret) (first_of u)) e
    ∙ elim (cases_Bool (is char.caret c)) as (λ z. is char.caret c ≡ false) [
      | inl same ↦ absurd (begins (ap Some (eqb-true c char.caret same)))
      | inr apart ↦ apart
    ]

pub again-class : (x : Tree) (p q : State) → Reads (Class x) p q → class_at p ≡ took x q
again-class x p q h = elim h.is [
  | grammar.plain xs e g ↦
      (let parts =
      split (word (codes "[")) (NotAtCaret xs ⌢ word (codes "]")) p q
      (reads-is (Class x) (word (codes "[") ⌢ NotAtCaret xs ⌢ word (codes "]")) p q h g) in
      let m = parts.middle in
      let tail = split (NotAtCaret xs) (word (codes "]")) m q parts.two in
      let elements = tail.one in
      let none =
      not-caret elements.text m tail.middle elements.way.rest elements.is.begins
      (at-word char.closing_bracket [] tail.middle q tail.two) in
      class-rest false xs p m m q (again-expect char.opening_bracket p m parts.one) (rw none refl)
      (reads-then (Elements xs) (word (codes "]")) m tail.middle q
      (reads-is (NotAtCaret xs) (Elements xs) m tail.middle elements elements.is.is) tail.two)
      ∙ ap (λ y. took y q) (sym e))
  | grammar.negated xs e g ↦
      (let parts =
      split (word (codes "[^")) (Elements xs ⌢ word (codes "]")) p q
      (reads-is (Class x) (word (codes "[^") ⌢ Elements xs ⌢ word (codes "]")) p q h g) in
      let prefix = split-word char.opening_bracket (codes "^") p parts.middle parts.one in
      let m = prefix.middle in
      class-rest true xs p m parts.middle q (again-expect char.opening_bracket p m prefix.one)
      (rw (
        at-word char.caret [] m parts.middle prefix.two,
        past-word char.caret m parts.middle prefix.two,
      ) refl)
      parts.two
      ∙ ap (λ y. took y q) (sym e))
]
