-- How a cell stands in a row, so that it ends where the row's next cell begins.
use Rattle.std.specs.Prelude.{ℕ, Bool, true, false, ◌==◌, ◌||◌, List, [], ◌∷◌, ◌++◌, if◌then◌else◌}
use Rattle.std.specs.List.{flat_map, list_any}
use Rattle.jp_reading.specs.Characters.{backslash, carriage_return, comma, double_quote, letter_n}
use Rattle.jp_reading.specs.Characters.{letter_r, letter_t, line_feed, tab}
use Rattle.jp_cells.specs.declared.style.Format.{Format}
use Rattle.jp_cells.specs.declared.style.Format.TheVariants.{Tabs, Csv}
use Rattle.jp_cells.specs.declared.style.Style.{Style}

-- between tabs `\t`, `\n`, `\r` and `\\`; in CSV two quotes for one (RFC 4180 section 2, rule 7); all
-- others plain
abbrev pub spelling : Format → ℕ → List ℕ
spelling Tabs c =
    if c == tab then backslash ∷ letter_t ∷ []
    else if c == line_feed then backslash ∷ letter_n ∷ []
    else if c == carriage_return then backslash ∷ letter_r ∷ []
    else if c == backslash then backslash ∷ backslash ∷ []
    else c ∷ []
spelling Csv c = if c == double_quote then double_quote ∷ double_quote ∷ [] else c ∷ []

-- between tabs: a raw text as it is spelled there, and JSON as it is, which has no tab and no line break
abbrev pub between_tabs : Bool → List ℕ → List ℕ
between_tabs true s = flat_map (spelling Tabs) s
between_tabs false s = s

-- a comma, a quote or a part of a line break (RFC 4180 section 2, rule 6)
abbrev pub calls_for_quotes : ℕ → Bool
calls_for_quotes c = c == comma || c == double_quote || c == carriage_return || c == line_feed

-- the text between two quotes (rules 5 and 7)
abbrev pub in_quotes : List ℕ → List ℕ
in_quotes s = double_quote ∷ (flat_map (spelling Csv) s ++ double_quote ∷ [])

-- in CSV: between quotes where it has to be
abbrev pub between_commas : List ℕ → List ℕ
between_commas s = if list_any calls_for_quotes s then in_quotes s else s

-- a cell of this text as it stands in a row
abbrev pub field_in : Format → Bool → List ℕ → List ℕ
field_in Tabs raw s = between_tabs raw s
field_in Csv raw s = between_commas s

abbrev pub field_text : Style → List ℕ → List ℕ
field_text style s = field_in style.format style.raw s
