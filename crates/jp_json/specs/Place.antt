-- Where a byte is in a text: in which line, and in which column.
use Rattle.std.specs.Prelude.{ℕ, ◌+◌, ◌-◌, ◌==◌, not, nat_le, [], ◌∷◌, if◌then◌else◌}
use Rattle.std.specs.Char.{len_utf8}
use Rattle.std.specs.List.{count_by, suffix_len}
use Rattle.jp_reading.specs.Characters.{line_feed}
use Rattle.jp_reading.specs.Texts.{Text}

-- the first characters, which end at or before that byte
abbrev pub front_of : ℕ → Text → Text
front_of place [] = []
front_of place (c ∷ t) =
    if nat_le (len_utf8 c) place then c ∷ front_of (place - len_utf8 c) t else []

-- after that front the number of the line: one more than it has line feeds
abbrev pub line_number : Text → ℕ
line_number front = count_by (λ c. c == line_feed) front + 1

-- and the column: one more than it has characters after its last line feed
abbrev pub column : Text → ℕ
column front = suffix_len (λ c. not (c == line_feed)) front + 1
