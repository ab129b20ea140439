-- Classes of characters, by which a text is cut around a place.
use Rattle.std.specs.Prelude.{ℕ, Bool, not, ◌==◌, ◌||◌}
use Rattle.jp_reading.specs.Texts.{is_blank}
use Rattle.jp_reading.specs.Characters.{line_feed}
use Rattle.jp_reading.specs.Numbers.{is_digit}
use Rattle.jp_query.specs.Names.{is_name_char, is_name_first}
use Rattle.jp_explain.specs.declared.class.Class.{Class}
use Rattle.jp_explain.specs.declared.class.Class.TheVariants.{Blank, NameFirst, Name, Digit, Line}
use Rattle.jp_explain.specs.declared.class.Class.TheVariants.{Unseen, Quote}
use Rattle.jp_explain.specs.Shown.{is_hidden, is_between}

-- whether a character is of the class: a blank (RFC 9535 section 2.1.1), the first of a member's name
-- after a dot or any of it (section 2.5.1.1), a digit, any but a line feed, one that is not seen (a
-- space, or a hidden character), or a quotation mark other
-- than those of queries: U+0060, U+2018, U+2019, U+201C, U+201D
abbrev pub holds : Class → ℕ → Bool
holds Blank c = is_blank c
holds NameFirst c = is_name_first c
holds Name c = is_name_char c
holds Digit c = is_digit c
holds Line c = not (c == line_feed)
holds Unseen c = c == 32 || is_hidden c
holds Quote c = c == 96 || is_between 8216 8217 c || is_between 8220 8221 c
