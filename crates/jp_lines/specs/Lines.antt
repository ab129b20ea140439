-- The lines of an input, as JSON Lines and NDJSON have them.
use Rattle.std.specs.Prelude.{ℕ, ◌==◌, Bool, ◌||◌, List, [], ◌∷◌, if◌then◌else◌}
use Rattle.std.specs.List.{list_all}

-- U+000A, which stands between two lines
abbrev pub newline : ℕ
newline = 10

-- the lines, of which the first has one byte more at its front
abbrev pub with_byte : ℕ → List (List ℕ) → List (List ℕ)
with_byte byte [] = (byte ∷ []) ∷ []
with_byte byte (line ∷ lines) = (byte ∷ line) ∷ lines

-- An input without a byte is one line, which is empty. A newline ends a line, and the next one begins
-- behind it. Any other byte belongs to its line.
abbrev pub lines_of_input : List ℕ → List (List ℕ)
lines_of_input [] = [] ∷ []
lines_of_input (byte ∷ bytes) =
    if byte == newline then [] ∷ lines_of_input bytes else with_byte byte (lines_of_input bytes)

-- a space, a tab, a newline or a carriage return (RFC 8259 section 2)
abbrev pub is_blank : ℕ → Bool
is_blank byte = byte == 32 || byte == 9 || byte == 10 || byte == 13

-- a line that holds no document: it has blanks alone, or nothing
abbrev pub is_blank_line : List ℕ → Bool
is_blank_line line = list_all is_blank line
