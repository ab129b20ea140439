-- Marks on the positions of a pattern whose repeats are written out: a position is marked where its
-- class has taken the last character.
use Rattle.std.specs.Prelude.{◌≡◌, ◌↔◌, ◌⊎◌, ℕ, ◌+◌, Bool, IsTrue, false, List, [], ◌∷◌, drop, get_or}
use Rattle.jp_iregexp.specs.Language.{Concatenation, Power}
use Rattle.jp_match.specs.Private.Plain.{Plain, Words, class, nothing, either, empty, sequence}
use Rattle.jp_match.specs.Private.Plain.{plus}

-- how many positions there are
abbrev pub size : Plain → ℕ
size (class negated items) = 1
size nothing = 0
size (either a b) = size a + size b
size empty = 0
size (sequence a b) = size a + size b
size (plus a) = size a

-- words of a language one after another, or none
abbrev pub Star : (List ℕ → Type 0) → List ℕ → Type 0
Star L word = (k : ℕ) × Power L k word

-- the words that lead from a mark to the end; the marks of a part come before those of the next
abbrev pub Rest : Plain → List Bool → List ℕ → Type 0
Rest (class negated items) marks word = IsTrue (get_or marks 0 false) × (word ≡ [])
Rest nothing marks word = ⊥
Rest (either a b) marks word = Rest a marks word ⊎ Rest b (drop (size a) marks) word
Rest empty marks word = ⊥
Rest (sequence a b) marks word =
    Concatenation (Rest a marks) (Words b) word ⊎ Rest b (drop (size a) marks) word
Rest (plus a) marks word = Concatenation (Rest a marks) (Star (Words a)) word

-- the end is reached: a mark is there, or the pattern is entered and has the empty word
pub record Ends (a : Plain) (entered : Bool) (marks : List Bool) (ended : Bool) : Type 0 where
  pub is : IsTrue ended ↔ (Rest a marks [] ⊎ (IsTrue entered × Words a []))

-- a step over the character c
pub record Steps (a : Plain) (c : ℕ) (entered : Bool) (before after : List Bool) (ended : Bool) :
    Type 0 where
  pub left : (word : List ℕ) → Rest a after word ↔ (Rest a before (c ∷ word) ⊎ (IsTrue entered ×
      Words a (c ∷ word)))
  pub ends : Ends a entered before ended
