-- The words of a pattern (RFC 9485 section 4).
use Rattle.std.specs.Prelude.{◌≡◌, ℕ, zero, suc, ◌≤◌, true, ⊤, List}
use Rattle.std.specs.Prelude.{[], ◌∷◌, ◌++◌, Option, Some, None, ◌⊎◌}
use Rattle.jp_iregexp.specs.Class.{class_holds}
use Rattle.jp_iregexp.specs.Tree.{Tree, class, nothing, either, empty, sequence, repeat}

-- the concatenation of two languages: a word of two parts, the first in the one and the second in
-- the other
pub record Concatenation (First Second : List ℕ → Type 0) (word : List ℕ) : Type 0 where
  pub prefix : List ℕ
  pub suffix : List ℕ
  pub is : word ≡ prefix ++ suffix
  pub first : First prefix
  pub second : Second suffix

-- k words of a language one after another
abbrev pub Power : (List ℕ → Type 0) → ℕ → List ℕ → Type 0
Power L zero word = word ≡ []
Power L (suc k) word = Concatenation L (Power L k) word

-- a count is not above the most that a repeat allows; without a most there is no upper end
abbrev pub IsAtMost : Option ℕ → ℕ → Type 0
IsAtMost None k = ⊤
IsAtMost (Some most) k = k ≤ most

-- the words of a pattern: of a class each character that it holds; of branches the words of either;
-- of pieces the words of each, joined; of a repeat the words of its inner pattern, joined, as many
-- as it allows (RFC 9485 section 4)
abbrev pub Language : Tree → List ℕ → Type 0
Language (class negated items) word =
    (c : ℕ) × (class_holds negated items c ≡ true) × (word ≡ c ∷ [])
Language nothing word = ⊥
Language (either a b) word = Language a word ⊎ Language b word
Language empty word = word ≡ []
Language (sequence a b) word = Concatenation (Language a) (Language b) word
Language (repeat a least most) word =
    (k : ℕ) × (least ≤ k) × IsAtMost most k × Power (Language a) k word
