-- The characters of patterns, alone and after `\`.
use Rattle.std.specs.Prelude.{◌≡◌, ℕ, Bool, ◌==◌, not, if◌then◌else◌, codes}
use Rattle.std.specs.List.{list_any}
use Rattle.jp_reading.specs.Characters.{carriage_return, letter_n, letter_r, letter_t, line_feed}
use Rattle.jp_reading.specs.Characters.{tab}
use Rattle.jp_reading.specs.Texts.{Text, Spans, is_among}
use Rattle.jp_reading.specs.Forms.{Form, word, One, ◌⌢◌}

-- a character that stands for itself outside a class (RFC 9485 section 3, NormalChar)
unfoldable pub is_normal : ℕ → Bool
is_normal c = not (is_among (codes "()*+.?[\\]{|}") c)

-- a character that stands for itself in a class (RFC 9485 section 3, CCchar)
unfoldable pub is_plain : ℕ → Bool
is_plain c = not (is_among (codes "-[\\]") c)

-- a character that may stand after `\` (RFC 9485 section 3, SingleCharEsc)
unfoldable pub is_escaped : ℕ → Bool
is_escaped e = is_among (codes "()*+-.?[\\]^nrt{|}") e

-- what it stands for there: n, r and t for line feed, carriage return and tab, each other for
-- itself
unfoldable pub meant : ℕ → ℕ
meant e =
    if e == letter_n then line_feed
    else if e == letter_r then carriage_return
    else if e == letter_t then tab
    else e

-- SingleCharEsc: `\` and the character e after it, which stand for what `meant` says (RFC 9485
-- section 3)
abbrev pub SingleEscape : ℕ → Form
SingleEscape e = word (codes "\\") ⌢ One is_escaped e

-- the character c, by itself where it is plain or by its escape
pub data PatternCharacter (plain : ℕ → Bool) (c : ℕ) (s : Spans) (o : ℕ) (t : Text) : Type 0 where
  itself : One plain c s o t → PatternCharacter plain c s o t
  escaped : (e : ℕ) → c ≡ meant e → SingleEscape e s o t → PatternCharacter plain c s o t
