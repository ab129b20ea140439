-- Classes of characters by their ranges, one by one and in tables.
use Rattle.std.proofs.Common.{◌≡◌, ℕ, Bool, true, ◌&&◌, List, [], ◌∷◌, refl, sym, ◌∙◌, eq-eqb}
use Rattle.jp_reading.specs.Texts.{Text}
use Rattle.jp_reading.specs.Outcome.{is}
use Rattle.jp_reading.proofs.Rules.Ranges.{Range, range, on_from, within, single, same-single}
use Rattle.jp_reading.proofs.Conjunctions.{and-left, and-right}

-- a class by its ranges: a character of it, ranges that have all of it, and ranges of which it has
-- all
pub record Class (ok : ℕ → Bool) : Type 0 where
  pub member : ℕ
  pub passes : ok member ≡ true
  pub outer : List Range
  pub covers : (c : ℕ) → ok c ≡ true → within outer c ≡ true
  pub inner : List Range
  pub filled : (c : ℕ) → within inner c ≡ true → ok c ≡ true

-- the class of these ranges
abbrev pub exactly : {ok : ℕ → Bool} (rs : List Range) (member : ℕ) → ok member ≡ true
    → ((c : ℕ) → ok c ≡ within rs c) → Class ok
exactly rs member passes same = record {
  member = member;
  passes = passes;
  outer = rs;
  covers = λ c h. sym (same c) ∙ h;
  inner = rs;
  filled = λ c h. same c ∙ h;
}

abbrev pub only : (c : ℕ) → Class (is c)
only c = exactly (single c) c (eq-eqb c c refl) (same-single c)

-- ---- tables

-- their first character
abbrev pub first_char : List Range → ℕ
first_char [] = 0
first_char (range a b ∷ rs) = a
first_char (on_from a ∷ rs) = a

-- a class of characters, and its ranges
pub record Known : Type 0 where
  pub class : ℕ → Bool
  pub ranges : List Range

abbrev pub known : (ℕ → Bool) → List Range → Known
known class ranges = record { class = class; ranges = ranges }

-- whether each class has the first character of its ranges
abbrev pub have_first : List Known → Bool
have_first [] = true
have_first (e ∷ es) = e.class (first_char e.ranges) && have_first es

-- each class has the characters of its ranges
abbrev pub AreSame : List Known → ℕ → Type 0
AreSame [] c = Unit {0}
AreSame (e ∷ es) c = (e.class c ≡ within e.ranges c) × AreSame es c

-- a proof for the first, and those for the others
infixr 5 ◌&◌
abbrev pub ◌&◌ : {P Q : Type 0} → P → Q → P × Q
p & q = (p, q)

-- the classes of a table
abbrev pub Classes : List Known → Type 0
Classes [] = Unit {0}
Classes (e ∷ es) = Class e.class × Classes es

abbrev pub classes_of : (es : List Known) → have_first es ≡ true → ((c : ℕ) → AreSame es c)
    → Classes es
classes_of [] h s = tt
classes_of (e ∷ es) h s = (
  exactly e.ranges (first_char e.ranges)
      (and-left (e.class (first_char e.ranges)) (have_first es) h) (λ c. (s c).0),
  classes_of es (and-right (e.class (first_char e.ranges)) (have_first es) h) (λ c. (s c).1),
)

-- the classes of one character each
abbrev pub Marks : Text → Type 0
Marks [] = Unit {0}
Marks (c ∷ t) = Class (is c) × Marks t

abbrev pub marks : (t : Text) → Marks t
marks [] = tt
marks (c ∷ t) = (only c, marks t)
