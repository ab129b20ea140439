-- Sets of offsets in a text: a mark for the offset before each character and for the offset at the
-- end.
use Rattle.std.specs.Prelude.{◌≡◌, ◌↔◌, ℕ, suc, ◌+◌, Bool, IsTrue, false}
use Rattle.std.specs.Prelude.{List, ◌++◌, length, take, count_by, get_or}

-- the offset is in the set
abbrev pub Marked : List Bool → ℕ → Type 0
Marked offsets offset = IsTrue (get_or offsets offset false)

-- a set has a mark for the offset before each character of the text and for the one at its end
abbrev pub IsOver : List Bool → List ℕ → Type 0
IsOver offsets text = length offsets ≡ suc (length text)

-- a set as large as another holds exactly such offsets
pub record Holds (IsIn : ℕ → Type 0) (from to : List Bool) : Type 0 where
  pub same_length : length to ≡ length from
  pub each : (offset : ℕ) → Marked to offset ↔ IsIn offset

-- the offset is reached from an offset of the set by a word of the language, one that stands in the
-- text
pub record Reached (L : List ℕ → Type 0) (text : List ℕ) (from : List Bool) (offset : ℕ) : Type 0
  where
    pub before : List ℕ
    pub word : List ℕ
    pub after : List ℕ
    pub is : text ≡ before ++ (word ++ after)
    pub begins : Marked from (length before)
    pub holds : L word
    pub ends : length before + length word ≡ offset

-- a set holds exactly the offsets that are reached from another by a word of the language
pub record IsImage (L : List ℕ → Type 0) (text : List ℕ) (from to : List Bool) : Type 0 where
  pub same_length : length to ≡ length from
  pub reached : (offset : ℕ) → Marked to offset ↔ Reached L text from offset

-- how many offsets of a set a character follows: all but the text's end
abbrev pub followed_count : List ℕ → List Bool → ℕ
followed_count text offsets = count_by (λ marked. marked) (take (length text) offsets)
