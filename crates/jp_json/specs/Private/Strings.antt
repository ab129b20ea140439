-- Where a string of a JSON text ends (RFC 8259 section 7).
use Rattle.std.specs.Prelude.{◌≡◌, ◌+◌, ℕ, List, ◌∷◌, ◌++◌, drop, length, IsUtf8}
use Rattle.std.specs.Str.{chars}
use Rattle.jp_reading.specs.Characters.{double_quote}
use Rattle.jp_json.specs.Grammar.{string}

-- that byte is the end of the string whose characters begin at the byte `from`: if what is there, with
-- the quotation mark before it, begins with a string by the grammar, the string ends there
abbrev pub IsStringEnd : List ℕ → ℕ → ℕ → Type 0
IsStringEnd text from end =
    (part behind : List ℕ) → drop from text ≡ part ++ behind → IsUtf8 part
    → string (double_quote ∷ chars part)
    → end ≡ from + length part
