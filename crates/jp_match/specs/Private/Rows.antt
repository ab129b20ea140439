-- What words of a language reach from each offset alone: a row of marks for each offset.
use Rattle.std.specs.Prelude.{◌≡◌, ◌↔◌, ◌⊎◌, ℕ, suc, ◌≤◌, ◌<◌, Bool, List, [], ◌∷◌, Vec, length}
use Rattle.std.specs.Prelude.{map, get_or}
use Rattle.std.specs.Global.{Global}
use Rattle.jp_iregexp.specs.Tree.{Tree, class, nothing, either, empty, sequence, repeat}
use Rattle.jp_iregexp.specs.Language.{Language}
use Rattle.jp_match.specs.Private.Offset.{IsOver, Marked, Holds, IsImage}

-- the marks of each set
abbrev pub marks_of : List (Vec Bool Global) → List (List Bool)
marks_of sets = map (λ set. set.items) sets

-- the rows of each list of them
abbrev pub rows_of : List (Vec (Vec Bool Global) Global) → List (List (List Bool))
rows_of known = map (λ rows. marks_of rows.items) known

-- the offset alone
abbrev pub IsOnly : List Bool → ℕ → Type 0
IsOnly offsets only = (offset : ℕ) → Marked offsets offset ↔ (offset ≡ only)

-- the row holds what the offset alone reaches
pub record IsRow (L : List ℕ → Type 0) (text : List ℕ) (start : ℕ) (row : List Bool) : Type 0 where
  pub from : List Bool
  pub long : IsOver from text
  pub only : IsOnly from start
  pub image : IsImage L text from row

-- there is a row for each offset
pub record AreRows (L : List ℕ → Type 0) (text : List ℕ) (rows : List (List Bool)) : Type 0 where
  pub count : length rows ≡ suc (length text)
  pub each : (start : ℕ) → start ≤ length text → IsRow L text start (get_or rows start [])

-- the rows are those of the language, or there are none, and nothing is known
pub record AreKnown (L : List ℕ → Type 0) (text : List ℕ) (rows : List (List Bool)) : Type 0 where
  pub known : (rows ≡ []) ⊎ AreRows L text rows

-- the patterns that a pattern is made of
abbrev pub parts_of : Tree → List Tree
parts_of (class negated items) = []
parts_of nothing = []
parts_of (either a b) = a ∷ parts_of b
parts_of empty = []
parts_of (sequence a b) = a ∷ parts_of b
parts_of (repeat a least most) = a ∷ []

-- what is known of each pattern of a list; nothing of those that the other list is too short for
pub record EachKnown (ts : List Tree) (text : List ℕ) (known : List (List (List Bool))) : Type 0
  where
    pub each : (i : ℕ) → i < length ts
        → AreKnown (Language (get_or ts i nothing)) text (get_or known i [])

-- a set holds exactly the offsets of the rows whose own offset is in another
abbrev pub IsUnion : List (List Bool) → List Bool → List Bool → Type 0
IsUnion rows from to = Holds (λ offset. (start : ℕ) × Marked from start × Marked (get_or rows start
    []) offset) from to
