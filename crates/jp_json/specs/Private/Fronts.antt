-- Fronts of texts that are ASCII characters and no line feeds.
use Rattle.std.specs.Prelude.{◌≡◌, ◌≤◌, ◌<◌, ◌+◌, ◌==◌, ◌&&◌, ℕ, Bool, true, not, nat_lt, List, ◌++◌, length, get_or}
use Rattle.std.specs.Str.{chars}
use Rattle.jp_reading.specs.Characters.{line_feed}
use Rattle.jp_reading.specs.Forms.{AllPassing}
use Rattle.jp_reading.specs.Texts.{Text}

-- an ASCII character that is no line feed
abbrev pub is_plain : ℕ → Bool
is_plain c = nat_lt c 128 && not (c == line_feed)

abbrev pub is_line_stop : ℕ → Bool
is_line_stop c = not (is_plain c)

-- the first so many bytes of a text, of at most so many, are such characters
pub record IsPlainFront (text : List ℕ) (most size : ℕ) : Type 0 where
  pub few : size ≤ most
  pub within : size ≤ length text
  pub passes : (k : ℕ) → k < size → is_plain (get_or text k 0) ≡ true

-- a text has such characters in front, of at most so many bytes, and then the rest
pub record IsBehindPlainFront (text : List ℕ) (most : ℕ) (rest : List ℕ) : Type 0 where
  pub front : Text
  pub parts : chars text ≡ front ++ chars rest
  pub size : length text ≡ length front + length rest
  pub few : length front ≤ most
  pub plain : AllPassing is_plain front
