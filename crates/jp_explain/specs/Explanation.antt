-- What is told of a refused query, and how it is written.
use Rattle.std.specs.Prelude.{◌≡◌, ℕ, [], ◌++◌, codes, replicate, string_bytes}
use Rattle.std.specs.Prelude.{Option, Some, None, String}
use Rattle.std.specs.Str.{chars}
use Rattle.jp_reading.specs.Characters.{space}
use Rattle.jp_reading.specs.Texts.{Text}
use Rattle.jp_explain.specs.declared.explanation.Explanation.{Explanation}
use Rattle.jp_explain.specs.Place.{column, front_of, line_at, line_before, line_number, rest_of}
use Rattle.jp_explain.specs.Shown.{shown, shown_width}

-- the explanation is of that byte of the text: its line as it is shown, with how many columns of a
-- terminal before it, the number of the line, and the column in characters
pub record IsPlacedAt (text : Text) (place : ℕ) (e : Explanation) : Type 0 where
  pub line : chars (string_bytes e.line) ≡ shown (line_at place text)
  pub width_before : e.width_before
      ≡ shown_width (line_before (front_of place text) (rest_of place text))
  pub line_number : e.line_number ≡ line_number place text
  pub column : e.column ≡ column place text

-- so many spaces and then a caret, which so stands under what is after that many columns
abbrev pub caret_line : ℕ → Text
caret_line width = replicate width space ++ codes "^"

-- the line of a suggestion, if there is one
abbrev pub suggestion_text : {Z : Type 0} → Option (String Z) → Text
suggestion_text None = []
suggestion_text (Some query) = codes "Try: " ++ chars (string_bytes query) ++ codes "\n"

-- the query's line, the caret's line, the sentence, and the suggestion
abbrev pub explanation_text : Explanation → Text
explanation_text e =
    codes "  " ++ chars (string_bytes e.line) ++ codes "\n  " ++ caret_line e.width_before
    ++ codes "\n" ++ chars e.sentence.now ++ codes "\n" ++ suggestion_text e.suggestion
