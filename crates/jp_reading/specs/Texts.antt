-- Texts as lists of characters, the bytes that they take, and the spans of components.
use Rattle.std.specs.Prelude.{ℕ, ◌+◌, ◌==◌, ◌||◌, Bool, false, List, [], ◌∷◌, Option, Some, None}
use Rattle.std.specs.Char.{len_utf8}
use Rattle.jp_reading.specs.Characters.{carriage_return, line_feed, space, tab}
use Rattle.jp_reading.specs.declared.span.Span.{Span}

-- a text is its Unicode scalar values in order (RFC 9535 section 2.1.1)
abbrev pub Text : Type 0
Text = List ℕ

-- how many bytes the text takes in UTF-8 (RFC 3629 section 3)
abbrev pub bytes : Text → ℕ
bytes [] = 0
bytes (c ∷ t) = len_utf8 c + bytes t

-- for each component in turn its span of bytes, or none where the component is omitted
abbrev pub Spans : Type 0
Spans = List (Option Span)

-- whether a character is blank: space, tab, line feed, carriage return (RFC 9535 section 2.1.1, B)
unfoldable pub is_blank : ℕ → Bool
is_blank c = c == space || c == tab || c == line_feed || c == carriage_return

-- the first character of a text
abbrev pub first_of : Text → Option ℕ
first_of [] = None
first_of (c ∷ t) = Some c

-- whether a character is one of a text's
abbrev pub is_among : Text → ℕ → Bool
is_among [] c = false
is_among (d ∷ t) c = c == d || is_among t c
