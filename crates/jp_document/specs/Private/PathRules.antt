-- The rules by which normalized paths are read (RFC 9535 section 2.7), so that the next character
-- tells how a text goes on. A name is read as its bytes.
use Rattle.std.specs.Prelude.{ℕ, suc, ◌+◌, ◌-◌, ◌==◌, ◌||◌, ◌&&◌, not, nat_le, nat_lt}
use Rattle.std.specs.Prelude.{Bool, true, false, if◌then◌else◌, List, ◌∷◌}
use Rattle.std.specs.Str.{encode_utf8_all}
use Rattle.jp_reading.specs.Characters as char
use Rattle.jp_reading.specs.Outcome.{is}
use Rattle.jp_reading.specs.Numbers.{is_digit, is_leading_digit, largest_exact}
use Rattle.jp_reading.specs.NumberReading.{capped}
use Rattle.jp_reading.specs.Rule.{here, Nesting, the, Rule, value, character}
use Rattle.jp_reading.specs.Rule.{made, look, upon, some, ◌>>=◌, ◌>>◌}
use Rattle.jp_document.specs.declared.characters.Characters.{Characters}
use Rattle.jp_document.specs.declared.characters.Characters.TheVariants as characters
use Rattle.jp_document.specs.Location.{Step, named, nth, Location}

-- ---- characters of names

-- normal-unescaped: a character that stands for itself
unfoldable pub is_plain : ℕ → Bool
is_plain c = not (nat_lt c 32 || c == char.single_quote || c == char.backslash)

-- normal-escapable: a letter that stands for a character after `\`
unfoldable pub is_letter : ℕ → Bool
is_letter e = e == char.letter_b || e == char.letter_t || e == char.letter_n || e == char.letter_f
    || e == char.letter_r || e == char.single_quote || e == char.backslash

-- what it stands for there
unfoldable pub meant : ℕ → ℕ
meant e =
    if e == char.letter_b then char.backspace
    else if e == char.letter_t then char.tab
    else if e == char.letter_n then char.line_feed
    else if e == char.letter_f then char.form_feed
    else if e == char.letter_r then char.carriage_return
    else e

-- normal-HEXDIG: a lower case hexadecimal digit, and what it writes
unfoldable pub is_hex_digit : ℕ → Bool
is_hex_digit d = nat_le char.digit_zero d && nat_le d char.digit_nine || nat_le char.letter_a d
    && nat_le d char.letter_f

unfoldable pub hex_value : ℕ → ℕ
hex_value d = if nat_lt d char.letter_a then d - char.digit_zero else d - (char.letter_a - 10)

-- one that writes a number below 16 whose character has no letter
unfoldable pub is_low_digit : ℕ → Bool
is_low_digit d = nat_le char.digit_zero d && nat_le d char.digit_seven || d == char.letter_b
    || d == char.letter_e || d == char.letter_f

-- whether a character does not end the name
abbrev pub is_inside : ℕ → Bool
is_inside c = not (c == char.single_quote)

-- whether a character is one of these
abbrev pub is_one_of : Characters → ℕ → Bool
is_one_of characters.Inside = is_inside
is_one_of characters.Plain = is_plain
is_one_of characters.Letter = is_letter
is_one_of characters.LowDigit = is_low_digit
is_one_of characters.HexDigit = is_hex_digit

-- ---- rules

-- a path nests nothing
abbrev pub nesting : Nesting
nesting = record { Opening = ⊥; opens = λ o c. false; Inner = λ o. ⊥ }

-- a rule of paths, which looks at the next character alone
abbrev pub PathRule : Bool → Type 0 → Type 1
PathRule u = Rule nesting u here here

-- normal-hexchar, after `u`
unfoldable pub hexchar : PathRule true ℕ
hexchar = do
  the char.digit_zero
  the char.digit_zero
  upon char.digit_zero (made hex_value (character is_low_digit))
      (the char.digit_one >> made (λ d. 16 + hex_value d) (character is_hex_digit))

-- what comes after `\`
unfoldable pub escape : PathRule true ℕ
escape = upon char.letter_u hexchar (made meant (character is_letter))

-- normal-single-quoted
unfoldable pub name_character : PathRule true ℕ
name_character = upon char.backslash escape (character is_plain)

-- the characters up to the quote, in bytes
unfoldable pub name_characters : PathRule false (List ℕ)
name_characters = made encode_utf8_all (some here is_inside name_character)

-- normal-name-selector
unfoldable pub name : PathRule true (List ℕ)
name = do
  the char.single_quote
  s ← name_characters
  the char.single_quote
  value {m = here} s

-- digits without a leading zero: what they write, or 2^53 where it is larger
unfoldable pub size : PathRule true ℕ
size = do
  d ← character is_leading_digit
  made (λ ds. capped (suc largest_exact) 0 (d ∷ ds)) (some here is_digit (character is_digit))

-- normal-index-selector
unfoldable pub index : PathRule true ℕ
index = upon char.digit_zero (value {m = here} 0) size

-- normal-selector
unfoldable pub normal_selector : PathRule true Step
normal_selector = look here (is char.single_quote) (made named name) (made nth index)

-- normal-index-segment
unfoldable pub step : PathRule true Step
step = do
  the char.opening_bracket
  k ← normal_selector
  the char.closing_bracket
  value {m = here} k

-- the steps, as long as another begins
unfoldable pub steps : PathRule false Location
steps = some here (is char.opening_bracket) step

-- normalized-path
unfoldable pub path : PathRule true Location
path = the char.dollar >> steps
