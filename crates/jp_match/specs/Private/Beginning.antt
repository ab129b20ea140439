-- Characters that no word of a language begins with, and those that each begins with.
use Rattle.std.specs.Prelude.{ℕ, Bool, IsTrue, false, List, [], ◌∷◌, get_or}
use Rattle.jp_match.specs.Private.OnlyWords.{is_prefix}

-- no word begins with the character, and none is empty
pub record NeverBegins (L : List ℕ → Type 0) (c : ℕ) : Type 0 where
  pub not_empty : L [] → ⊥
  pub not_first : (rest : List ℕ) → L (c ∷ rest) → ⊥

-- no word of a language begins with a character that a table rules out, and none is empty where it
-- rules out any
abbrev pub RulesOut : List Bool → (List ℕ → Type 0) → Type 0
RulesOut table L = (c : ℕ) → IsTrue (get_or table c false) → NeverBegins L c

-- each character that a table rules out another rules out too
abbrev pub IsWithin : List Bool → List Bool → Type 0
IsWithin table other = (c : ℕ) → IsTrue (get_or table c false) → IsTrue (get_or other c false)

-- a table admits more characters, and no word of a language begins with one that it still rules out
pub record Admits (L : List ℕ → Type 0) (before after : List Bool) : Type 0 where
  pub fewer : IsWithin after before
  pub never : RulesOut after L

-- each word of a language begins with a text
abbrev pub AllBegin : List ℕ → (List ℕ → Type 0) → Type 0
AllBegin prefix L = (word : List ℕ) → L word → IsTrue (is_prefix prefix word)
