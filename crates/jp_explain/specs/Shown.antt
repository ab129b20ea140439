-- How a text is shown in one line of a terminal.
use Rattle.std.specs.Prelude.{ℕ, ◌+◌, ◌-◌, ◌/◌, ◌%◌, Bool, ◌&&◌, ◌||◌, ◌==◌, nat_le, nat_lt}
use Rattle.std.specs.Prelude.{false, if◌then◌else◌, [], ◌∷◌}
use Rattle.std.specs.List.{flat_map}
use Rattle.unicode_width.specs.Width.{str_width}
use Rattle.jp_reading.specs.Characters.{backslash, carriage_return, digit_zero, letter_a, letter_n}
use Rattle.jp_reading.specs.Characters.{letter_r, letter_t, letter_u, line_feed, tab}
use Rattle.jp_reading.specs.Texts.{Text}

-- from the one character to the other
abbrev pub is_between : ℕ → ℕ → ℕ → Bool
is_between first last c = nat_le first c && nat_le c last

-- the control characters, and those by which a terminal may turn the order of what it shows, end a
-- line, or show nothing: U+0000 to U+001F, U+007F to U+00A0, U+00AD, U+061C, U+200B, U+200E, U+200F,
-- U+2028 to U+202E, U+2060 to U+206F, U+FEFF
abbrev pub is_hidden : ℕ → Bool
is_hidden c =
    is_between 0 31 c || is_between 127 160 c || c == 173 || c == 1564 || c == 8203
    || is_between 8206 8207 c || is_between 8232 8238 c || is_between 8288 8303 c || c == 65279

-- a lower case hex digit
abbrev pub hex_digit : ℕ → ℕ
hex_digit n = if nat_lt n 10 then digit_zero + n else (letter_a - 10) + n

-- `\u` and the character's number in four hex digits
abbrev pub number_shown : ℕ → Text
number_shown c =
    backslash ∷ letter_u ∷ hex_digit (c / 4096) ∷ hex_digit (c / 256 % 16) ∷ hex_digit (c / 16 % 16)
    ∷ hex_digit (c % 16) ∷ []

-- `\n`, `\r` and `\t`; others of those by their number; all others plain
abbrev pub shown_character : ℕ → Text
shown_character c =
    if c == line_feed then backslash ∷ letter_n ∷ []
    else if c == carriage_return then backslash ∷ letter_r ∷ []
    else if c == tab then backslash ∷ letter_t ∷ []
    else if is_hidden c then number_shown c
    else c ∷ []

-- the text as it is shown
abbrev pub shown : Text → Text
shown = flat_map shown_character

-- how many columns of a terminal that takes
abbrev pub shown_width : Text → ℕ
shown_width text = str_width false (shown text)
