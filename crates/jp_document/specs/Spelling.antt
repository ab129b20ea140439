-- How texts are spelled between quotes, for `quote`, paths and values: the quote is `'` in
-- normalized paths (RFC 9535 section 2.7) and `"` in JSON (RFC 8259 section 7). Each character
-- with a spelling of its own is one byte, so a text is spelled byte by byte.
use Rattle.std.specs.Prelude.{ℕ, ◌+◌, ◌-◌, ◌/◌, ◌%◌, ◌==◌, ◌||◌, nat_lt}
use Rattle.std.specs.Prelude.{if◌then◌else◌, List, [], ◌∷◌, ◌++◌}
use Rattle.std.specs.List.{flat_map}
use Rattle.jp_reading.specs.Characters.{backslash, backspace, carriage_return, digit_zero}
use Rattle.jp_reading.specs.Characters.{form_feed, letter_a, letter_b, letter_f, letter_n, letter_r}
use Rattle.jp_reading.specs.Characters.{letter_t, letter_u, line_feed, space, tab}

-- a lower case hex digit
abbrev pub hex_digit : ℕ → ℕ
hex_digit n = if nat_lt n 10 then digit_zero + n else (letter_a - 10) + n

-- `\u00` and two hex digits
abbrev pub control : ℕ → List ℕ
control c =
    backslash ∷ letter_u ∷ digit_zero ∷ digit_zero ∷ hex_digit (c / 16) ∷ hex_digit (c % 16) ∷ []

-- `\b`, `\t`, `\n`, `\f`, `\r`; the quote and `\` after a `\`; other characters below U+0020 by
-- their number; all others plain
unfoldable pub spelling : ℕ → ℕ → List ℕ
spelling quote c =
    if c == backspace then backslash ∷ letter_b ∷ []
    else if c == tab then backslash ∷ letter_t ∷ []
    else if c == line_feed then backslash ∷ letter_n ∷ []
    else if c == form_feed then backslash ∷ letter_f ∷ []
    else if c == carriage_return then backslash ∷ letter_r ∷ []
    else if c == quote || c == backslash then backslash ∷ c ∷ []
    else if nat_lt c space then control c
    else c ∷ []

-- the spellings of all characters, between two quotes
abbrev pub quoted_in : ℕ → List ℕ → List ℕ
quoted_in quote s = quote ∷ (flat_map (spelling quote) s ++ quote ∷ [])
