-- Patterns that have a few words, which are looked for as they are.
use Rattle.std.specs.Prelude.{◌≡◌, ◌↔◌, ℕ, ⊤, Bool, true, false, ◌&&◌, ◌||◌, nat_eq}
use Rattle.std.specs.Prelude.{List, [], ◌∷◌, String, string_bytes}
use Rattle.std.specs.List.{list_any}
use Rattle.std.specs.Str.{chars, bytes_eq}
use Rattle.jp_iregexp.specs.Language.{Language}
use Rattle.jp_iregexp.specs.Membership.{is_word}
use Rattle.jp_iregexp.specs.Tree.{Tree}

-- the characters of a text
abbrev pub characters : {Z : Type 0} → String Z → List ℕ
characters text = chars (string_bytes text)

-- a character as a text
abbrev pub alone : ℕ → List ℕ
alone c = c ∷ []

-- a pattern has one word and no other
pub record IsOnlyWord (t : Tree) (only : List ℕ) : Type 0 where
  pub is : (word : List ℕ) → Language t word ↔ (word ≡ only)

-- so have the patterns of a list, one by one
abbrev pub AreOnlyWords : List Tree → List (List ℕ) → Type 0
AreOnlyWords [] [] = ⊤
AreOnlyWords [] (word ∷ words) = ⊥
AreOnlyWords (t ∷ ts) [] = ⊥
AreOnlyWords (t ∷ ts) (word ∷ words) = IsOnlyWord t word × AreOnlyWords ts words

-- a pattern has these words and no others
abbrev pub HasOnlyWords : Tree → List (List ℕ) → Type 0
HasOnlyWords t words = (text : List ℕ) → is_word t text ≡ list_any (λ word. bytes_eq word text) words

-- whether a text begins with a word
unfoldable pub is_prefix : List ℕ → List ℕ → Bool
is_prefix [] text = true
is_prefix (c ∷ word) [] = false
is_prefix (c ∷ word) (d ∷ text) = nat_eq c d && is_prefix word text

-- whether a word is a part of a text
unfoldable pub is_part : List ℕ → List ℕ → Bool
is_part word [] = is_prefix word []
is_part word (d ∷ text) = is_prefix word (d ∷ text) || is_part word text
