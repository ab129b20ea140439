-- The names of columns, which a run can begin with.
use Rattle.std.specs.Prelude.{ℕ, Bool, true, List, [], ◌∷◌, ◌++◌, codes, if◌then◌else◌}
use Rattle.jp_cells.specs.Rows.{row_text, separator}
use Rattle.jp_cells.specs.declared.style.Style.{Style}
use Rattle.jp_lines.specs.Request.{ColumnsBy, KeepBy, Request, SelectBy}
use Rattle.jp_lines.specs.declared.options.Options.{Options}

-- a row of these names, as raw texts, behind `line` where the rows begin with numbers
abbrev pub names_text : Style → Bool → List (List ℕ) → List ℕ
names_text style numbered names =
    (if numbered then codes "line" ++ separator style.format ∷ [] else [])
    ++ row_text (record style { raw = true }) names

-- that row, if it is to be
abbrev pub names_before : Style → Bool → Bool → List (List ℕ) → List ℕ
names_before style named numbered names = if named then names_text style numbered names else []

-- what is written before the input is read: the names of columns are the texts of their queries
abbrev pub begin_of : Options → Request → List ℕ
begin_of options (SelectBy wanted extent text) = []
begin_of options (KeepBy text) = []
begin_of options (ColumnsBy style named texts) = names_before style named options.numbered texts
