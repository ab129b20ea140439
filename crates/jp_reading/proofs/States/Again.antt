-- What has the form of a value is read as that value.
use Rattle.std.proofs.Common.{◌≡◌, ℕ, ◌+◌, Bool, true, false, List, [], ◌∷◌, ◌++◌, length, Some}
use Rattle.std.proofs.Common.{refl, sym, ap, ◌∙◌, subst, append_assoc, append-nil, eq-eqb, arith}
use Rattle.std.specs.Char.{len_utf8}
use Rattle.jp_reading.specs.Texts.{Text, Spans, bytes, is_blank}
use Rattle.jp_reading.specs.Forms.{Form, ◌⌢◌, word, One, Blank, AllPassing, Each, Separated}
use Rattle.jp_reading.specs.Forms.{Component}
use Rattle.jp_reading.specs.Outcome.{State, Outcome, took, head, past, past_first}
use Rattle.jp_reading.specs.Texts.{first_of}
use Rattle.jp_reading.specs.Outcome.{past_blanks, skip, passes, is, is_at, take_if, expect, each}
use Rattle.jp_reading.specs.Outcome.{component_since}
use Rattle.jp_reading.proofs.States.Between.{reads-as, Between, Reads, bytes-append, between-none}
use Rattle.jp_reading.proofs.States.Between.{state-same}
use Rattle.jp_reading.proofs.States.Steps.{take_if-takes}
use Rattle.jp_reading.proofs.States.Stopping.{span_inserted}
use Rattle.jp_reading.proofs.States.Progress.{Progress}
use Rattle.jp_reading.proofs.States.Loops.{round, each-on, each-off}

-- the rule reads each text of x as x, where what follows it is as it must be
abbrev pub Again : {A : Type 0} → (A → Form) → (Text → Type 0) → (State → Outcome A) → Type 0
Again {A} F Follows rule = (x : A) (p q : State) → Reads (F x) p q → Follows q.rest
    → rule p ≡ took x q

-- ---- where one part ends and the next begins

pub record Split (P Q : Form) (p q : State) : Type 0 where
  pub middle : State
  pub one : Reads P p middle
  pub two : Reads Q middle q

pub split : (P Q : Form) (p q : State) → Reads (P ⌢ Q) p q → Split P Q p q
split P Q p q h =
    let parts = h.is in
    record {
      middle = record {
        at = p.at + bytes parts.first;
        rest = parts.second ++ q.rest;
        found = p.found ++ parts.first_spans;
      };
      one = record {
        spans = parts.first_spans;
        text = parts.first;
        way = record {
          rest = h.way.rest ∙ ap (λ t. t ++ q.rest) parts.is
              ∙ append_assoc parts.first parts.second q.rest;
          at = refl;
          found = refl;
        };
        is = parts.one;
      };
      two = record {
        spans = parts.second_spans;
        text = parts.second;
        way = record {
          rest = refl;
          at = h.way.at ∙ ap (λ t. p.at + bytes t) parts.is
              ∙ (let e = bytes-append parts.first parts.second in omega arith);
          found = h.way.found ∙ ap (λ s. p.found ++ s) parts.spans
              ∙ sym (append_assoc p.found parts.first_spans parts.second_spans);
        };
        is = parts.two;
      };
    }

-- a word is its first character and the others
pub split-word : (c : ℕ) (w : Text) (p q : State) → Reads (word (c ∷ w)) p q
    → Split (word (c ∷ [])) (word w) p q
split-word c w p q h =
    split (word (c ∷ [])) (word w) p q (reads-as (word (c ∷ w)) (word (c ∷ []) ⌢ word w) p q
    (λ s o t g. record {
      first_spans = [];
      second_spans = [];
      first = c ∷ [];
      second = w;
      spans = g.none;
      is = g.is;
      one = record { none = refl; is = refl };
      two = record { none = refl; is = refl };
    }) h)

-- a word of no characters is nothing
pub reads-none : (p q : State) → Reads (word []) p q → p ≡ q
reads-none p q h = none p q h.spans h.text h.is.none h.is.is h.way
  where
    none : (p q : State) (s : Spans) (t : Text) → s ≡ [] → t ≡ [] → Between p s t q → p ≡ q
    none p q s t e f way = between-none p q (record {
      rest = way.rest ∙ ap (λ u. u ++ q.rest) f;
      at = way.at ∙ ap (λ u. p.at + bytes u) f;
      found = way.found ∙ ap (λ v. p.found ++ v) e;
    })

-- ---- characters and blanks

one-character : (p q : State) (s : Spans) (t : Text) (c : ℕ) → s ≡ [] → t ≡ c ∷ [] → Between p s t q
    → (head p ≡ Some c) × (past p ≡ q)
one-character p q s t c e f way =
    let rest : p.rest ≡ c ∷ q.rest = way.rest ∙ ap (λ u. u ++ q.rest) f in (
      ap first_of rest,
      ap (past_first p.at p.found) rest
          ∙ state-same (past_first p.at p.found (c ∷ q.rest)) q
          (sym (way.at ∙ ap (λ u. p.at + bytes u) f ∙ omega arith)) refl
          (sym (way.found ∙ ap (λ v. p.found ++ v) e ∙ append-nil p.found)),
    )

-- a word's first character stands next
pub word-first : (c : ℕ) (w : Text) (p q : State) → Reads (word (c ∷ w)) p q → head p ≡ Some c
word-first c w p q h = ap first_of (h.way.rest ∙ ap (λ u. u ++ q.rest) h.is.is)

pub one-first : (ok : ℕ → Bool) (c : ℕ) (p q : State) → Reads (One ok c) p q → head p ≡ Some c
one-first ok c p q h = ap first_of (h.way.rest ∙ ap (λ u. u ++ q.rest) h.is.is)

pub again-take_if : (ok : ℕ → Bool) (c : ℕ) (p q : State) → Reads (One ok c) p q
    → take_if ok p ≡ took c q
again-take_if ok c p q h =
    let stands = one-character p q h.spans h.text c h.is.none h.is.is h.way in
    take_if-takes ok p c stands.0 h.is.passes ∙ ap (took c) stands.1

pub again-expect : (c : ℕ) (p q : State) → Reads (word (c ∷ [])) p q → expect c p ≡ took c q
again-expect c p q h =
    let stands = one-character p q h.spans h.text c h.is.none h.is.is h.way in
    take_if-takes (is c) p c stands.0 (eq-eqb c c refl) ∙ ap (took c) stands.1

-- the same for a word that was looked at
pub at-word : (c : ℕ) (w : Text) (p q : State) → Reads (word (c ∷ w)) p q → is_at c p ≡ true
at-word c w p q h = ap (passes (is c)) (word-first c w p q h) ∙ eq-eqb c c refl

pub past-word : (c : ℕ) (p q : State) → Reads (word (c ∷ [])) p q → past p ≡ q
past-word c p q h = (one-character p q h.spans h.text c h.is.none h.is.is h.way).1

-- blanks are skipped up to what is none
again-past_blanks : (blanks : Text) (at : ℕ) (found : Spans) (rest : Text)
    → AllPassing is_blank blanks
    → passes is_blank (first_of rest) ≡ false
    → past_blanks at found (blanks ++ rest) ≡ record {
      at = at + bytes blanks;
      rest = rest;
      found = found;
    }
unfolding past_blanks
again-past_blanks [] at found [] all off =
    ap (λ (n : ℕ). record { at = n; rest = []; found = found }) (omega arith)
again-past_blanks [] at found (c ∷ rest) all off =
    rw off (ap (λ (n : ℕ). record { at = n; rest = c ∷ rest; found = found }) (omega arith))
again-past_blanks (b ∷ blanks) at found rest all off =
    rw all.0 (again-past_blanks blanks (at + len_utf8 b) found rest all.1 off
    ∙ ap (λ (n : ℕ). record { at = n; rest = rest; found = found }) (omega arith))

pub again-skip : (p q : State) → Reads Blank p q → passes is_blank (head q) ≡ false → skip p ≡ q
again-skip p q h off =
    ap (past_blanks p.at p.found) h.way.rest
    ∙ again-past_blanks h.text p.at p.found q.rest h.is.blank off
    ∙ state-same (record {
      at = p.at + bytes h.text;
      rest = q.rest;
      found = p.found;
    }) q (sym h.way.at) refl
    (sym (h.way.found ∙ ap (λ v. p.found ++ v) h.is.none ∙ append-nil p.found))

-- ---- components and loops

-- what lies inside a component, and that its span makes the component
pub record ComponentInside (P : Form) (p q : State) : Type 0 where
  pub middle : State
  pub reads : Reads P p middle
  pub rest : middle.rest ≡ q.rest
  pub spanned : component_since p.at (length p.found) middle ≡ q

pub component-inside : (P : Form) (p q : State) → Reads (Component P) p q → ComponentInside P p q
component-inside P p q h = record {
  middle = record { at = q.at; rest = q.rest; found = p.found ++ h.is.inside };
  reads = record {
    spans = h.is.inside;
    text = h.text;
    way = record { rest = h.way.rest; at = h.way.at; found = refl };
    is = h.is.is;
  };
  rest = refl;
  spanned = ap (λ (f : Spans). record { at = q.at; rest = q.rest; found = f })
      (span_inserted p.found h.is.inside (p.found ++ h.is.inside) (record {
        start = p.at;
        end = q.at;
      })
      (record { start = p.at; end = p.at + bytes h.text }) refl
      (ap (λ (e : ℕ). record { start = p.at; end = e }) h.way.at)
      ∙ ap (λ s. p.found ++ s) (sym h.is.spans) ∙ sym h.way.found);
}

-- where another text of the loop stands a round begins, and what stands there may follow a text
-- before it
abbrev pub Starts : {A : Type 0} → (A → Form) → (Text → Type 0) → (State → Bool) → Type 0
Starts {A} F Follows begins =
    (x : A) (p q : State) → Reads (F x) p q → (begins p ≡ true) × Follows p.rest

-- a value, and then a list
pub again-round : {A : Type 0} (x : A) (xs : List A) (p m q : State) (o : Outcome A)
    (f : State → Outcome (List A))
    → o ≡ took x m → f m ≡ took xs q → round o f ≡ took (x ∷ xs) q
again-round x xs p m q o f e g = rw (e, g) refl

each-follows : {A : Type 0} (F : A → Form) (Follows : Text → Type 0) (begins : State → Bool)
    → Starts F Follows begins
    → (xs : List A) (p q : State) → Reads (Each F xs) p q → Follows q.rest → Follows p.rest
each-follows F Follows begins starts [] p q h follow =
    subst (λ (r : State). Follows r.rest) (sym (reads-none p q h)) follow
each-follows F Follows begins starts (x ∷ xs) p q h follow =
    let parts = split (F x) (Each F xs) p q h in (starts x p parts.middle parts.one).1

pub again-each : {A : Type 0} (F : A → Form) (Follows : Text → Type 0) (begins : State → Bool)
    (rule : State → Outcome A)
    → Progress rule → Again F Follows rule → Starts F Follows begins
    → (xs : List A) (p q : State) → Reads (Each F xs) p q → begins q ≡ false → Follows q.rest
    → each begins rule p ≡ took xs q
again-each F Follows begins rule moves again starts [] p q h off follow =
    let same = reads-none p q h in
    rw same (each-off begins rule q off)
again-each F Follows begins rule moves again starts (x ∷ xs) p q h off follow =
    let parts = split (F x) (Each F xs) p q h in
    let m = parts.middle in
    each-on begins rule moves p (starts x p m parts.one).0
    ∙ again-round x xs p m q (rule p) (each begins rule)
    (again x p m parts.one (each-follows F Follows begins starts xs m q parts.two follow))
    (again-each F Follows begins rule moves again starts xs m q parts.two off follow)

-- a first value, and others after a separator each
pub again-separated : {A : Type 0} (w : Form) (F : A → Form) (Follows : Text → Type 0)
    (begins : State → Bool)
    (first next : State → Outcome A) → Progress next → Again F Follows first
    → Again (λ x. w ⌢ F x) Follows next
    → Starts (λ x. w ⌢ F x) Follows begins
    → (xs : List A) (p q : State) → Reads (Separated w F xs) p q → begins q ≡ false → Follows q.rest
    → round (first p) (each begins next) ≡ took xs q
again-separated w F Follows begins first next moves one more starts [] p q h off follow =
    elim h.is [ ]
again-separated w F Follows begins first next moves one more starts (x ∷ xs) p q h off follow =
    let parts = split (F x) (Each (λ y. w ⌢ F y) xs) p q h in
    let m = parts.middle in
    again-round x xs p m q (first p) (each begins next)
    (one x p m parts.one
    (each-follows (λ y. w ⌢ F y) Follows begins starts xs m q parts.two follow))
    (again-each (λ y. w ⌢ F y) Follows begins next moves more starts xs m q parts.two off follow)

-- ---- whole texts

-- a reader at the start of a text
abbrev pub start : Text → State
start t = record { at = 0; rest = t; found = [] }

-- and at its end
abbrev pub finish : Text → Spans → State
finish t s = record { at = bytes t; rest = []; found = s }

pub reads-whole : (P : Form) (s : Spans) (t : Text) → P s 0 t → Reads P (start t) (finish t s)
reads-whole P s t h = record {
  spans = s;
  text = t;
  way = record { rest = sym (append-nil t); at = omega arith; found = refl };
  is = h;
}

pub whole-reads : (P : Form) (t : Text) (q : State) → Reads P (start t) q → q.rest ≡ []
    → P q.found 0 t
whole-reads P t q h e =
    let all : h.text ≡ t = sym (h.way.rest ∙ ap (λ u. h.text ++ u) e ∙ append-nil h.text) in
    rw (h.way.found, ← all) h.is
