-- A row: cells with a tab or a comma between each two.
use Rattle.std.specs.Prelude.{ℕ, List, [], ◌∷◌, ◌++◌, map}
use Rattle.std.specs.List.{join_with_byte}
use Rattle.jp_reading.specs.Characters.{carriage_return, comma, double_quote, line_feed, tab}
use Rattle.jp_cells.specs.Fields.{field_text}
use Rattle.jp_cells.specs.declared.style.Format.{Format}
use Rattle.jp_cells.specs.declared.style.Format.TheVariants.{Tabs, Csv}
use Rattle.jp_cells.specs.declared.style.Style.{Style}

-- what stands between two cells (RFC 4180 section 2, rule 4)
abbrev pub separator : Format → ℕ
separator Tabs = tab
separator Csv = comma

-- what ends a row (rule 1)
abbrev pub row_end : Format → List ℕ
row_end Tabs = line_feed ∷ []
row_end Csv = carriage_return ∷ line_feed ∷ []

-- the cells of a row together; in CSV two quotes stand for a lone cell with nothing in it, since who
-- reads it may pass over an empty line
abbrev pub shown : Format → List ℕ → List ℕ
shown Csv [] = double_quote ∷ double_quote ∷ []
shown _ cells = cells

-- the row of cells with these texts
abbrev pub row_text : Style → List (List ℕ) → List ℕ
row_text style cells =
    shown style.format (join_with_byte (separator style.format) (map (field_text style) cells))
    ++ row_end style.format
