-- How the code of a category is found from its letters.
use Rattle.std.specs.Prelude.{ℕ, Bool, false, ◌==◌, ◌&&◌, [], ◌∷◌, Option, Some, None, find}
use Rattle.jp_reading.specs.Texts.{Text}
use Rattle.jp_iregexp.specs.declared.category.Category.{Category}
use Rattle.jp_iregexp.specs.declared.category.TheConstants.Category.{ALL}
use Rattle.jp_iregexp.specs.Codes.{letters}

-- a letter, and a second one where there is one
abbrev pub pair : ℕ → Option ℕ → Text
pair a None = a ∷ []
pair a (Some b) = a ∷ b ∷ []

-- whether a text has just these letters
abbrev pub is_pair : ℕ → Option ℕ → Text → Bool
is_pair a None (c ∷ []) = c == a
is_pair a (Some b) (c ∷ d ∷ []) = c == a && d == b
is_pair a b t = false

-- the code with these letters, if there is one
unfoldable pub code_of : ℕ → Option ℕ → Option Category
code_of a b = find (λ k. is_pair a b (letters k)) ALL
