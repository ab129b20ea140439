-- What some command lines ask for.
use Rattle.std.proofs.Common.{◌≡◌, [], ◌∷◌, true, false, List, ℕ, Option, Some, None, codes, refl}
use Rattle.clap.proofs.OnLiterals.{clap_on_literals}
use Rattle.jp_check.specs.declared.profile.Profile.TheVariants.{Standard, Extended, Decimal}
use Rattle.jp_check.specs.declared.profile.Profile.TheVariants.{ExtendedDecimal}
use Rattle.jp_command.specs.CommandLine.{query_app}
use Rattle.jp_command.specs.Lines as form
use Rattle.jp_cells.specs.declared.style.Format.TheVariants.{Csv, Tabs}
use Rattle.jp_lines.specs.CommandLine.{asked, columns_app, jp_lines, keep_app, lines_app, queries_app}
use Rattle.jp_lines.specs.CommandLine.{values_app, with_columns, with_keep, with_selections}
use Rattle.jp_lines.specs.Request.{ColumnsBy, Job, KeepBy, Request, SelectBy}
use Rattle.jp_lines.specs.declared.options.Extent.TheVariants.{All, First}
use Rattle.jp_lines.specs.declared.options.Options.{Options}
use Rattle.jp_lines.specs.declared.options.Wanted.TheVariants.{Nodes, Count}

-- what no flag asks for
abbrev plain : Options
plain =
    record {
      profile = Decimal;
      numbered = false;
      keep_going = false;
      line_buffered = false;
      explaining = false;
      exit_status = false;
      summary = false;
      reports = None;
      limit = None;
      output_limit = record { nodes = None; bytes = None };
    }

-- a job over these inputs
abbrev over : List (List ℕ) → Options → Request → Option Job
over inputs options request = Some (record { options = options; request = request; inputs = inputs })

values : asked (codes "jp-lines" ∷ codes "eval" ∷ codes "$" ∷ [])
    ≡ over [] plain (SelectBy (Nodes form.values) All (codes "$"))
unfolding clap_on_literals jp_lines with_columns with_keep with_selections keep_app values_app lines_app columns_app queries_app query_app
values = refl

number_and_buffer :
    asked (codes "jp-lines" ∷ codes "both" ∷ codes "--number" ∷ codes "$"
    ∷ codes "--line-buffered" ∷ [])
    ≡ over [] (record plain { numbered = true; line_buffered = true }) (SelectBy (Nodes form.both) All (codes "$"))
unfolding clap_on_literals jp_lines with_columns with_keep with_selections keep_app values_app lines_app columns_app queries_app query_app
number_and_buffer = refl

going_and_extended :
    asked (codes "jp-lines" ∷ codes "count" ∷ codes "--keep-going" ∷ codes "--extended"
    ∷ codes "$" ∷ [])
    ≡ over [] (record plain { profile = ExtendedDecimal; keep_going = true }) (SelectBy Count All (codes "$"))
unfolding clap_on_literals jp_lines with_columns with_keep with_selections keep_app values_app lines_app columns_app queries_app query_app
going_and_extended = refl

explaining : asked (codes "jp-lines" ∷ codes "eval" ∷ codes "$" ∷ codes "--explain" ∷ [])
    ≡ over [] (record plain { explaining = true }) (SelectBy (Nodes form.values) All (codes "$"))
unfolding clap_on_literals jp_lines with_columns with_keep with_selections keep_app values_app lines_app columns_app queries_app query_app
explaining = refl

keeping :
    asked (codes "jp-lines" ∷ codes "keep" ∷ codes "@.a" ∷ codes "--keep-going" ∷ [])
    ≡ over [] (record plain { keep_going = true }) (KeepBy (codes "@.a"))
unfolding clap_on_literals jp_lines with_columns with_keep with_selections keep_app values_app lines_app columns_app queries_app query_app
keeping = refl

flag_twice :
    asked (codes "jp-lines" ∷ codes "count" ∷ codes "--number" ∷ codes "--number" ∷ codes "$" ∷ [])
    ≡ None
unfolding clap_on_literals jp_lines with_columns with_keep with_selections keep_app values_app lines_app columns_app queries_app query_app
flag_twice = refl

no_query : asked (codes "jp-lines" ∷ codes "eval" ∷ []) ≡ None
unfolding clap_on_literals jp_lines with_columns with_keep with_selections keep_app values_app lines_app columns_app queries_app query_app
no_query = refl

subcommand_of_another_program : asked (codes "jp-lines" ∷ codes "check" ∷ codes "$" ∷ []) ≡ None
unfolding clap_on_literals jp_lines with_columns with_keep with_selections keep_app values_app lines_app columns_app queries_app query_app
subcommand_of_another_program = refl

limit :
    asked (codes "jp-lines" ∷ codes "eval" ∷ codes "--limit" ∷ codes "10000" ∷ codes "$" ∷ [])
    ≡ over [] (record plain { limit = Some 10000 }) (SelectBy (Nodes form.values) All (codes "$"))
unfolding clap_on_literals jp_lines with_columns with_keep with_selections keep_app values_app lines_app columns_app queries_app query_app
limit = refl

greatest_limit :
    asked (codes "jp-lines" ∷ codes "count" ∷ codes "$" ∷ codes "--limit=18446744073709551615" ∷ [])
    ≡ over [] (record plain { limit = Some 18446744073709551615 }) (SelectBy Count All (codes "$"))
unfolding clap_on_literals jp_lines with_columns with_keep with_selections keep_app values_app lines_app columns_app queries_app query_app
greatest_limit = refl

limit_of_none :
    asked (codes "jp-lines" ∷ codes "eval" ∷ codes "--limit" ∷ codes "0" ∷ codes "$" ∷ []) ≡ None
unfolding clap_on_literals jp_lines with_columns with_keep with_selections keep_app values_app lines_app columns_app queries_app query_app
limit_of_none = refl

limit_too_great :
    asked (codes "jp-lines" ∷ codes "eval" ∷ codes "--limit" ∷ codes "18446744073709551616"
    ∷ codes "$" ∷ []) ≡ None
unfolding clap_on_literals jp_lines with_columns with_keep with_selections keep_app values_app lines_app columns_app queries_app query_app
limit_too_great = refl

output_limit :
    asked (codes "jp-lines" ∷ codes "paths" ∷ codes "--max-bytes" ∷ codes "5" ∷ codes "$"
    ∷ codes "--max-nodes=18446744073709551615" ∷ [])
    ≡ over [] (record plain { output_limit = record { nodes = Some 18446744073709551615; bytes = Some 5 } })
    (SelectBy (Nodes form.paths) All (codes "$"))
unfolding clap_on_literals jp_lines with_columns with_keep with_selections keep_app values_app lines_app columns_app queries_app query_app
output_limit = refl

output_limit_of_none :
    asked (codes "jp-lines" ∷ codes "keep" ∷ codes "--max-nodes" ∷ codes "0" ∷ codes "@" ∷ []) ≡ None
unfolding clap_on_literals jp_lines with_columns with_keep with_selections keep_app values_app lines_app columns_app queries_app query_app
output_limit_of_none = refl

first_and_status :
    asked (codes "jp-lines" ∷ codes "paths" ∷ codes "--first" ∷ codes "$" ∷ codes "--exit-status" ∷ [])
    ≡ over [] (record plain { exit_status = true }) (SelectBy (Nodes form.paths) First (codes "$"))
unfolding clap_on_literals jp_lines with_columns with_keep with_selections keep_app values_app lines_app columns_app queries_app query_app
first_and_status = refl

columns :
    asked (codes "jp-lines" ∷ codes "columns" ∷ codes "$.a" ∷ codes "--csv" ∷ codes "$.b"
    ∷ codes "--names" ∷ codes "--keep-going" ∷ [])
    ≡ over [] (record plain { keep_going = true }) (ColumnsBy (record { format = Csv; raw = false }) true (codes "$.a" ∷ codes "$.b" ∷ []))
unfolding clap_on_literals jp_lines with_columns with_keep with_selections keep_app values_app lines_app columns_app queries_app query_app
columns = refl

columns_of_no_query : asked (codes "jp-lines" ∷ codes "columns" ∷ codes "--raw" ∷ []) ≡ None
unfolding clap_on_literals jp_lines with_columns with_keep with_selections keep_app values_app lines_app columns_app queries_app query_app
columns_of_no_query = refl

csv_of_another_command : asked (codes "jp-lines" ∷ codes "eval" ∷ codes "--csv" ∷ codes "$" ∷ []) ≡ None
unfolding clap_on_literals jp_lines with_columns with_keep with_selections keep_app values_app lines_app columns_app queries_app query_app
csv_of_another_command = refl

two_files :
    asked (codes "jp-lines" ∷ codes "count" ∷ codes "$" ∷ codes "a" ∷ codes "--summary" ∷ codes "-" ∷ [])
    ≡ over (codes "a" ∷ codes "-" ∷ []) (record plain { summary = true }) (SelectBy Count All (codes "$"))
unfolding clap_on_literals jp_lines with_columns with_keep with_selections keep_app values_app lines_app columns_app queries_app query_app
two_files = refl

keeping_in_a_file :
    asked (codes "jp-lines" ∷ codes "keep" ∷ codes "@.a" ∷ codes "x.jsonl" ∷ [])
    ≡ over (codes "x.jsonl" ∷ []) plain (KeepBy (codes "@.a"))
unfolding clap_on_literals jp_lines with_columns with_keep with_selections keep_app values_app lines_app columns_app queries_app query_app
keeping_in_a_file = refl

columns_and_files :
    asked (codes "jp-lines" ∷ codes "columns" ∷ codes "$.a" ∷ codes "$.b" ∷ codes "x" ∷ codes "$y" ∷ [])
    ≡ over (codes "x" ∷ codes "$y" ∷ []) plain
    (ColumnsBy (record { format = Tabs; raw = false }) false (codes "$.a" ∷ codes "$.b" ∷ []))
unfolding clap_on_literals jp_lines with_columns with_keep with_selections keep_app values_app lines_app columns_app queries_app query_app
columns_and_files = refl

first_word_of_columns :
    asked (codes "jp-lines" ∷ codes "columns" ∷ codes "x" ∷ codes "$.b" ∷ codes "./$y" ∷ [])
    ≡ over (codes "./$y" ∷ []) plain
    (ColumnsBy (record { format = Tabs; raw = false }) false (codes "x" ∷ codes "$.b" ∷ []))
unfolding clap_on_literals jp_lines with_columns with_keep with_selections keep_app values_app lines_app columns_app queries_app query_app
first_word_of_columns = refl

raw_values :
    asked (codes "jp-lines" ∷ codes "eval" ∷ codes "--raw" ∷ codes "$" ∷ [])
    ≡ over [] plain (SelectBy (Nodes form.raw_values) All (codes "$"))
unfolding clap_on_literals jp_lines with_columns with_keep with_selections keep_app values_app lines_app columns_app queries_app query_app
raw_values = refl

raw_both :
    asked (codes "jp-lines" ∷ codes "both" ∷ codes "$" ∷ codes "--raw" ∷ codes "x" ∷ [])
    ≡ over (codes "x" ∷ []) plain (SelectBy (Nodes form.raw_both) All (codes "$"))
unfolding clap_on_literals jp_lines with_columns with_keep with_selections keep_app values_app lines_app columns_app queries_app query_app
raw_both = refl

raw_paths : asked (codes "jp-lines" ∷ codes "paths" ∷ codes "--raw" ∷ codes "$" ∷ []) ≡ None
unfolding clap_on_literals jp_lines with_columns with_keep with_selections keep_app values_app lines_app columns_app queries_app query_app
raw_paths = refl

no_reports :
    asked (codes "jp-lines" ∷ codes "eval" ∷ codes "$" ∷ codes "--keep-going" ∷ codes "--reports"
    ∷ codes "0" ∷ [])
    ≡ over [] (record plain { keep_going = true; reports = Some 0 })
    (SelectBy (Nodes form.values) All (codes "$"))
unfolding clap_on_literals jp_lines with_columns with_keep with_selections keep_app values_app lines_app columns_app queries_app query_app
no_reports = refl

reports_too_many :
    asked (codes "jp-lines" ∷ codes "eval" ∷ codes "--reports=18446744073709551616" ∷ codes "$" ∷ [])
    ≡ None
unfolding clap_on_literals jp_lines with_columns with_keep with_selections keep_app values_app lines_app columns_app queries_app query_app
reports_too_many = refl

whole : asked (codes "jp-lines" ∷ codes "eval" ∷ codes "--whole" ∷ codes "$" ∷ [])
    ≡ over [] (record plain { profile = Standard }) (SelectBy (Nodes form.values) All (codes "$"))
unfolding clap_on_literals jp_lines with_columns with_keep with_selections keep_app values_app lines_app columns_app queries_app query_app
whole = refl

keeping_by_whole :
    asked (codes "jp-lines" ∷ codes "keep" ∷ codes "@.a" ∷ codes "x" ∷ codes "--whole" ∷ codes "--extended" ∷ [])
    ≡ over (codes "x" ∷ []) (record plain { profile = Extended }) (KeepBy (codes "@.a"))
unfolding clap_on_literals jp_lines with_columns with_keep with_selections keep_app values_app lines_app columns_app queries_app query_app
keeping_by_whole = refl

columns_of_whole :
    asked (codes "jp-lines" ∷ codes "columns" ∷ codes "--whole" ∷ codes "$.a" ∷ codes "$.b" ∷ [])
    ≡ over [] (record plain { profile = Standard })
    (ColumnsBy (record { format = Tabs; raw = false }) false (codes "$.a" ∷ codes "$.b" ∷ []))
unfolding clap_on_literals jp_lines with_columns with_keep with_selections keep_app values_app lines_app columns_app queries_app query_app
columns_of_whole = refl

whole_twice :
    asked (codes "jp-lines" ∷ codes "count" ∷ codes "--whole" ∷ codes "$" ∷ codes "--whole" ∷ []) ≡ None
unfolding clap_on_literals jp_lines with_columns with_keep with_selections keep_app values_app lines_app columns_app queries_app query_app
whole_twice = refl

decimals_of_another_program :
    asked (codes "jp-lines" ∷ codes "eval" ∷ codes "--decimals" ∷ codes "$" ∷ []) ≡ None
unfolding clap_on_literals jp_lines with_columns with_keep with_selections keep_app values_app lines_app columns_app queries_app query_app
decimals_of_another_program = refl
