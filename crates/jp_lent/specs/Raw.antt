-- How a value is written raw: a string by its characters, so that it is plain text and no JSON.
use Rattle.std.specs.Prelude.{ℕ, List, Option, Some, None, unwrap_or}
use Rattle.jp_document.specs.Text.{text_of}
use Rattle.jp_document.specs.Value.{Value, text}

-- the characters of a string in UTF-8 (RFC 8259 section 7); other values have none
abbrev pub characters_of : Value → Option (List ℕ)
characters_of (text s) = Some s
characters_of _ = None

-- a string by its characters, any other value by its compact text
abbrev pub raw_text : Value → List ℕ
raw_text v = unwrap_or (characters_of v) (text_of v)
