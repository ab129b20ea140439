-- Words of at most so many characters: patterns are cut down to them.
use Rattle.std.specs.Prelude.{◌↔◌, ℕ, ◌≤◌, ⊤, List, [], ◌∷◌, length}
use Rattle.jp_iregexp.specs.Tree.{Tree}
use Rattle.jp_iregexp.specs.Language.{Language}

-- two languages have the same words of at most so many characters
pub record IsSameUpTo (chars : ℕ) (L M : List ℕ → Type 0) : Type 0 where
  pub each : (word : List ℕ) → length word ≤ chars → L word ↔ M word

-- a language has no word of at most so many characters
abbrev pub HasNoneUpTo : ℕ → (List ℕ → Type 0) → Type 0
HasNoneUpTo chars L = (word : List ℕ) → length word ≤ chars → L word → ⊥

-- so have the patterns of two lists, one by one
abbrev pub AreSameUpTo : ℕ → List Tree → List Tree → Type 0
AreSameUpTo chars [] [] = ⊤
AreSameUpTo chars [] (b ∷ others) = ⊥
AreSameUpTo chars (a ∷ more) [] = ⊥
AreSameUpTo chars (a ∷ more) (b ∷ others) =
    IsSameUpTo chars (Language a) (Language b) × AreSameUpTo chars more others
