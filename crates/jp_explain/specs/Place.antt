-- Where a byte is in a text: after how many characters, in which line, and in which column.
use Rattle.std.specs.Prelude.{ℕ, suc, ◌+◌, ◌-◌, ◌==◌, nat_le, not, length, take, drop, [], ◌∷◌, ◌++◌}
use Rattle.std.specs.Prelude.{if◌then◌else◌}
use Rattle.std.specs.Char.{len_utf8}
use Rattle.std.specs.List.{count_by, suffix_len, take_while}
use Rattle.jp_reading.specs.Characters.{line_feed}
use Rattle.jp_reading.specs.Texts.{Text}

-- how many of the first characters end at or before that byte
abbrev pub characters_before : ℕ → Text → ℕ
characters_before place [] = 0
characters_before place (c ∷ t) =
    if nat_le (len_utf8 c) place then suc (characters_before (place - len_utf8 c) t) else 0

-- the text before the byte, and the text from it on
abbrev pub front_of : ℕ → Text → Text
front_of place text = take (characters_before place text) text

abbrev pub rest_of : ℕ → Text → Text
rest_of place text = drop (characters_before place text) text

-- the front, of which each line feed starts a line: one at the text's end starts none
abbrev pub starting : Text → Text → Text
starting front [] = take (length front - 1) front
starting front (c ∷ rest) = front

-- the line of a place, before it: what the front has after its last line feed that starts a line
abbrev pub line_before : Text → Text → Text
line_before front rest =
    drop
    (length (starting front rest) - suffix_len (λ c. not (c == line_feed)) (starting front rest))
    front

-- the line of a place, from there on: what the rest has before its first line feed
abbrev pub line_after : Text → Text
line_after = take_while (λ c. not (c == line_feed))

-- of a byte the line that holds it, the number of that line, and the column of the character there,
-- both from 1
abbrev pub line_at : ℕ → Text → Text
line_at place text =
    line_before (front_of place text) (rest_of place text) ++ line_after (rest_of place text)

abbrev pub line_number : ℕ → Text → ℕ
line_number place text =
    count_by (λ c. c == line_feed) (starting (front_of place text) (rest_of place text)) + 1

abbrev pub column : ℕ → Text → ℕ
column place text = length (line_before (front_of place text) (rest_of place text)) + 1
