-- What is told at the end of a run: how many refused lines were not told, and what the run counts.
use Rattle.std.specs.Prelude.{ℕ, ◌+◌, ◌-◌, Bool, is_some, nat_lt, List, [], ◌++◌, Option, Some, None, Result, Err, ⊤}
use Rattle.std.specs.Prelude.{codes, if◌then◌else◌, ◌||◌}
use Rattle.std.specs.Fmt.{decimal}
use Rattle.jp_lines.specs.Request.{ColumnsBy, KeepBy, Request, SelectBy}
use Rattle.jp_lines.specs.declared.halt.Halt.{Halt}
use Rattle.jp_lines.specs.declared.halt.Halt.TheVariants as halt
use Rattle.jp_lines.specs.declared.options.Options.{Options}
use Rattle.jp_lines.specs.declared.tally.Tally.{Tally}

-- the refused lines that were not told one by one, where there are more than were to be told
abbrev pub more_text : Option ℕ → Tally → List ℕ
more_text None tally = []
more_text (Some most) tally = if nat_lt most tally.refused
    then codes "more lines refused: " ++ decimal (tally.refused - most) ++ codes "\n" else []

-- how many lines ended the run, since they are refused: one, or none
abbrev pub lines_cut : Result ⊤ Halt → ℕ
lines_cut (Err (halt.Line lead r)) = 1
lines_cut _ = 0

-- what the lines count with the one that ended the run, where one did
abbrev pub with_last : Tally → Result ⊤ Halt → Tally
with_last tally end = record tally { refused = tally.refused + lines_cut end }

-- what the selected ones are: lines that are kept, or nodes
abbrev pub selected_name : Request → List ℕ
selected_name (KeepBy text) = codes "kept"
selected_name (SelectBy wanted extent text) = codes "nodes"
selected_name (ColumnsBy style named texts) = codes "nodes"

-- a line with these counts
abbrev pub counts_text : ℕ → ℕ → ℕ → List ℕ → ℕ → List ℕ
counts_text lines documents refused name selected =
    (codes "lines " ++ decimal lines ++ codes ", documents " ++ decimal documents)
    ++ (codes ", refused " ++ decimal refused ++ codes ", ")
    ++ (name ++ codes " " ++ decimal selected ++ codes "\n")

-- what a run counts: a line is one with a document that is answered, or one that is refused
abbrev pub summary_text : Request → Tally → List ℕ
summary_text request tally = counts_text (tally.documents + tally.refused) tally.documents
    tally.refused (selected_name request) tally.selected

-- whether something is asked for at the end
abbrev pub asks_closing : Options → Bool
asks_closing options = options.summary || is_some options.reports

-- what is told at the end, behind the line of what ended the run
abbrev pub closing_text : Options → Request → Tally → Result ⊤ Halt → List ℕ
closing_text options request tally end = more_text options.reports tally
    ++ (if options.summary then summary_text request (with_last tally end) else [])
