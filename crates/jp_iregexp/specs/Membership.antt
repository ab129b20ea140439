-- Whether a word is in the language of a pattern, as a test, and the laws that it tells just that.
use Rattle.std.specs.Prelude.{◌↔◌, IsTrue, ℕ, zero, suc, ◌+◌, Bool, true, false, ◌&&◌, ◌||◌, nat_le}
use Rattle.std.specs.Prelude.{List, [], ◌∷◌, length, take, drop, Option, Some, None}
use Rattle.std.specs.List.{list_any, range_with_len}
use Rattle.jp_iregexp.specs.Class.{class_holds}
use Rattle.jp_iregexp.specs.Language.{Language}
use Rattle.jp_iregexp.specs.Part.{HasPart}
use Rattle.jp_iregexp.specs.Tree.{Tree, class, nothing, either, empty, sequence, repeat}

-- whether a word has no character
abbrev pub is_empty : List ℕ → Bool
is_empty [] = true
is_empty (c ∷ word) = false

-- whether a word is one character that passes a test
abbrev pub is_one : (ℕ → Bool) → List ℕ → Bool
is_one test (c ∷ []) = test c
is_one test word = false

-- whether a word can be cut in two so that the first part passes one test and the second another
abbrev pub is_concatenation : (List ℕ → Bool) → (List ℕ → Bool) → List ℕ → Bool
is_concatenation first second word =
    list_any (λ k. first (take k word) && second (drop k word)) (range_with_len 0 (length word + 1))

-- whether a word can be cut into k words that pass a test
abbrev pub is_power : (List ℕ → Bool) → ℕ → List ℕ → Bool
is_power test zero word = is_empty word
is_power test (suc k) word = is_concatenation test (is_power test k) word

-- whether a count is not above the most that a repeat allows
abbrev pub is_at_most : Option ℕ → ℕ → Bool
is_at_most None k = true
is_at_most (Some most) k = nat_le k most

-- whether a word can be cut into words that pass a test, as many as a repeat allows; past the least
-- as many more as the word has characters are enough, since empty ones can be left out
abbrev pub is_repeat : (List ℕ → Bool) → ℕ → Option ℕ → List ℕ → Bool
is_repeat test least most word =
    list_any (λ k. is_at_most most k && is_power test k word)
    (range_with_len least (length word + 1))

-- whether a word is in the language of a pattern (RFC 9485 section 4)
unfoldable pub is_word : Tree → List ℕ → Bool
is_word (class negated items) word = is_one (class_holds negated items) word
is_word nothing word = false
is_word (either a b) word = is_word a word || is_word b word
is_word empty word = is_empty word
is_word (sequence a b) word = is_concatenation (is_word a) (is_word b) word
is_word (repeat a least most) word = is_repeat (is_word a) least most word

-- whether some part of a text is in the language of a pattern: the text is any text, then a word of
-- the pattern, then any text (RFC 9535 section 2.4.7)
unfoldable pub has_word : Tree → List ℕ → Bool
has_word a = is_concatenation (λ before. true) (is_concatenation (is_word a) (λ after. true))

-- the test of words tells exactly the words of each pattern
abbrev pub WordsAreTested : Type 0
WordsAreTested = (a : Tree) (word : List ℕ) → IsTrue (is_word a word) ↔ Language a word

-- the test of parts tells exactly the texts of which some part is a word
abbrev pub PartsAreTested : Type 0
PartsAreTested = (a : Tree) (text : List ℕ) → IsTrue (has_word a text) ↔ HasPart (Language a) text
