-- Members' names after a dot (RFC 9535 section 2.5.1.1), and names of functions (section 2.4).
use Rattle.std.specs.Prelude.{◌≡◌, ℕ, Bool, ◌&&◌, ◌||◌, nat_le, ◌==◌, ◌∷◌}
use Rattle.jp_reading.specs.Texts.{Text, Spans}
use Rattle.jp_reading.specs.Forms.{One, ◌⌢◌, Each}
use Rattle.jp_reading.specs.Numbers.{is_digit}
use Rattle.jp_reading.specs.Characters.{capital_a, capital_z, low_line, letter_a, letter_z}

-- name-first (section 2.5.1.1): a letter, `_`, or any scalar value from U+0080 up
abbrev pub is_name_first : ℕ → Bool
is_name_first c =
    (nat_le capital_a c && nat_le c capital_z) || (nat_le letter_a c && nat_le c letter_z)
    || (c == low_line) || nat_le 128 c

-- name-char (section 2.5.1.1): name-first or a digit
abbrev pub is_name_char : ℕ → Bool
is_name_char c = is_name_first c || is_digit c

-- member-name-shorthand (section 2.5.1.1): name-first, then any name-chars
pub data Shorthand (cs : Text) (s : Spans) (o : ℕ) (t : Text) : Type 0 where
  shorthand : (c : ℕ) (more : Text) → cs ≡ c ∷ more
      → (One is_name_first c ⌢ Each (One is_name_char) more) s o t → Shorthand cs s o t

-- function-name-first (section 2.4): a lower case letter
abbrev pub is_function_first : ℕ → Bool
is_function_first c = nat_le letter_a c && nat_le c letter_z

-- function-name-char (section 2.4): a lower case letter, `_`, or a digit
abbrev pub is_function_char : ℕ → Bool
is_function_char c = is_function_first c || (c == low_line) || is_digit c

-- function-name (section 2.4): function-name-first, then any function-name-chars
pub data FunctionName (name : Text) (s : Spans) (o : ℕ) (t : Text) : Type 0 where
  function_name : (c : ℕ) (more : Text) → name ≡ c ∷ more
      → (One is_function_first c ⌢ Each (One is_function_char) more) s o t → FunctionName name s o t
