-- Strings (RFC 9535 section 2.3.1.1, string-literal).
use Rattle.std.specs.Prelude.{◌≡◌, ℕ, ◌+◌, ◌-◌, ◌*◌, Bool, not, ◌&&◌, ◌||◌, nat_le, nat_lt, ◌==◌}
use Rattle.std.specs.Prelude.{if◌then◌else◌, [], ◌∷◌, codes}
use Rattle.std.specs.Char.{digit_value}
use Rattle.jp_reading.specs.Texts.{Text, Spans}
use Rattle.jp_reading.specs.Forms.{Form, word, One, ◌⌢◌, Each}
use Rattle.jp_reading.specs.Characters.{backslash, backspace, carriage_return, double_quote}
use Rattle.jp_reading.specs.Characters.{form_feed, letter_b, letter_f, letter_n, letter_r, letter_t}
use Rattle.jp_reading.specs.Characters.{line_feed, single_quote, slash, space, tab}

-- a character that stands for itself: from U+0020 up, and neither the quotation mark around it nor
-- a backslash (unescaped, and the other quotation mark)
abbrev pub is_plain : ℕ → ℕ → Bool
is_plain quote c = nat_le space c && not (c == quote) && not (c == backslash)

-- what may follow a backslash, but for `u`: b, f, n, r, t, a slash, a backslash (escapable), or the
-- quotation mark around it
abbrev pub is_escapable : ℕ → ℕ → Bool
is_escapable quote c =
    (c == letter_b) || (c == letter_f) || (c == letter_n) || (c == letter_r) || (c == letter_t)
    || (c == slash) || (c == backslash) || (c == quote)

-- what it then stands for: U+0008, U+000C, U+000A, U+000D, U+0009, or itself
abbrev pub escaped : ℕ → ℕ
escaped c =
    if c == letter_b then backspace
    else if c == letter_f then form_feed
    else if c == letter_n then line_feed
    else if c == letter_r then carriage_return
    else if c == letter_t then tab
    else c

-- HEXDIG, in either case; and one that is D, none, 0 to 7, 8 to B, and C to F
unfoldable pub is_hexdig : ℕ → Bool
is_hexdig c = nat_lt (digit_value c) 16

unfoldable pub is_d : ℕ → Bool
is_d c = digit_value c == 13

unfoldable pub is_not_d : ℕ → Bool
is_not_d c = nat_lt (digit_value c) 16 && not (digit_value c == 13)

unfoldable pub is_0_to_7 : ℕ → Bool
is_0_to_7 c = nat_lt (digit_value c) 8

unfoldable pub is_8_to_b : ℕ → Bool
is_8_to_b c = nat_le 8 (digit_value c) && nat_lt (digit_value c) 12

unfoldable pub is_c_to_f : ℕ → Bool
is_c_to_f c = nat_le 12 (digit_value c) && nat_lt (digit_value c) 16

-- the number that four hexadecimal digits write
abbrev pub unit_of : ℕ → ℕ → ℕ → ℕ → ℕ
unit_of a b c d = ((digit_value a * 16 + digit_value b) * 16 + digit_value c) * 16 + digit_value d

-- the scalar value of a surrogate pair (The Unicode Standard, section 3.9, UTF-16)
abbrev pub scalar_of : ℕ → ℕ → ℕ
scalar_of high low = 65536 + (high - 55296) * 1024 + (low - 56320)

-- four hexadecimal digits that write v, of which the first two pass these tests
pub data Unit (first second : ℕ → Bool) (v : ℕ) (s : Spans) (o : ℕ) (t : Text) : Type 0 where
  digits : (a b c d : ℕ) → v ≡ unit_of a b c d
      → (One first a ⌢ One second b ⌢ One is_hexdig c ⌢ One is_hexdig d) s o t
      → Unit first second v s o t

-- hexchar: non-surrogate, or high-surrogate "\u" low-surrogate
pub data Hexchar (c : ℕ) (s : Spans) (o : ℕ) (t : Text) : Type 0 where
  not_d : Unit is_not_d is_hexdig c s o t → Hexchar c s o t
  below_surrogates : Unit is_d is_0_to_7 c s o t → Hexchar c s o t
  surrogates : (high low : ℕ) → c ≡ scalar_of high low
      → (Unit is_d is_8_to_b high ⌢ word (codes "\\") ⌢ word (codes "u")
      ⌢ Unit is_d is_c_to_f low) s o t → Hexchar c s o t

-- double-quoted and single-quoted: a character between two of the quotation mark, and its text
pub data StringCharacter (quote c : ℕ) (s : Spans) (o : ℕ) (t : Text) : Type 0 where
  plain : One (is_plain quote) c s o t → StringCharacter quote c s o t
  escape : (letter : ℕ) → c ≡ escaped letter
      → (word (codes "\\") ⌢ One (is_escapable quote) letter) s o t → StringCharacter quote c s o t
  hex : (word (codes "\\") ⌢ word (codes "u") ⌢ Hexchar c) s o t → StringCharacter quote c s o t

-- the characters cs between two of the quotation mark
abbrev pub Between : ℕ → Text → Form
Between quote cs = word (quote ∷ []) ⌢ Each (StringCharacter quote) cs ⌢ word (quote ∷ [])

-- string-literal: double quotation marks, or single ones
pub data Quoted (cs : Text) (s : Spans) (o : ℕ) (t : Text) : Type 0 where
  in_double : Between double_quote cs s o t → Quoted cs s o t
  in_single : Between single_quote cs s o t → Quoted cs s o t
