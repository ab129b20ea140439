-- Patterns whose words all have one width, and what follows a word in a text.
use Rattle.std.specs.Prelude.{◌≡◌, ◌↔◌, ℕ, ◌+◌, ◌*◌, Bool, true, false, ◌&&◌, nat_eq, IsTrue}
use Rattle.std.specs.Prelude.{List, [], ◌∷◌, ◌++◌, Option, None, Some}
use Rattle.jp_iregexp.specs.Language.{Language}
use Rattle.jp_iregexp.specs.Positions.{positions_of}
use Rattle.jp_iregexp.specs.Tree.{Tree, class, nothing, either, empty, sequence, repeat}

-- how many characters a word has that takes the first of branches, and of repeats the fewest words
abbrev pub first_width : Tree → ℕ
first_width (class negated items) = 1
first_width nothing = 0
first_width (either a b) = first_width a
first_width empty = 0
first_width (sequence a b) = first_width a + first_width b
first_width (repeat a least most) = least * first_width a

-- whether a repeat takes one number of words
abbrev pub takes_one_count : ℕ → Option ℕ → Bool
takes_one_count least None = false
takes_one_count least (Some most) = nat_eq least most

-- whether each word of a pattern has so many characters, as its parts tell: a class one, each branch
-- as many, pieces together, and a repeat that takes one number of words so many times those of one
abbrev pub has_width : Tree → ℕ → Bool
has_width (class negated items) width = nat_eq width 1
has_width nothing width = true
has_width (either a b) width = has_width a width && has_width b width
has_width empty width = nat_eq width 0
has_width (sequence a b) width = nat_eq width (first_width a + first_width b)
    && (has_width a (first_width a) && has_width b (first_width b))
has_width (repeat a least most) width = takes_one_count least most
    && (nat_eq width (least * first_width a) && has_width a (first_width a))

-- there is one width that each word of a pattern has
pub record HasOneWidth (t : Tree) : Type 0 where
  pub width : ℕ
  pub each : IsTrue (has_width t width)

-- the width of the words of a pattern is told
pub record IsWidthOf (t : Tree) (width : ℕ) : Type 0 where
  pub first : width ≡ first_width t
  pub each : IsTrue (has_width t width)

-- two patterns have the same words and as many positions, and the words of both have one width
pub record IsAlike (t other : Tree) : Type 0 where
  pub same : (word : List ℕ) → Language t word ↔ Language other word
  pub positions : positions_of t ≡ positions_of other
  pub wide : HasOneWidth t → HasOneWidth other

-- a text is a word of a language, and what follows it
pub record IsFollowed (L : List ℕ → Type 0) (text rest : List ℕ) : Type 0 where
  pub word : List ℕ
  pub is : text ≡ word ++ rest
  pub holds : L word

-- what follows the words of a language that a text begins with is known: it is one text, or none
-- where it begins with no word
pub record Leaves (L : List ℕ → Type 0) (text : List ℕ) (left : Option (List ℕ)) : Type 0 where
  pub exactly : (rest : List ℕ) → IsFollowed L text rest ↔ (left ≡ Some rest)

-- a text begins with a character
pub record HasFirst (c : ℕ) (text : List ℕ) : Type 0 where
  pub rest : List ℕ
  pub is : text ≡ c ∷ rest

-- a text begins with a word of a language
pub record HasPrefix (L : List ℕ → Type 0) (text : List ℕ) : Type 0 where
  pub rest : List ℕ
  pub follows : IsFollowed L text rest

-- the first character of a text, and what follows it
abbrev pub cut_first : List ℕ → Option (ℕ × List ℕ)
cut_first [] = None
cut_first (c ∷ rest) = Some (c, rest)
