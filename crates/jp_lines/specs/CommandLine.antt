-- What the words of a command line ask for: the command line as clap reads it, and what it finds in
-- the words: how to go over the lines and in which profile, what is asked of each document, and the names of
-- the inputs. `Program` cites it.
use Rattle.std.specs.Prelude.{ℕ, suc, ◌==◌, Bool, true, false, List, [], ◌∷◌, Option, Some, None}
use Rattle.std.specs.Prelude.{codes, if◌then◌else◌, option_and_then, option_map, unwrap_or, drop, take}
use Rattle.std.specs.List.{prefix_len}
use Rattle.std.specs.Str.{bytes_eq}
use Rattle.std.specs.Str.Parse.{digits_value, without_leading_plus}
use Rattle.clap.specs.Words.{App, Row, Text, all_of, fault_of, first_of, new_app, new_rule}
use Rattle.clap.specs.Words.{one_of, subcommand_of, with_rule, with_subcommand}
use Rattle.clap.specs.declared.builder.action.ArgAction.TheVariants.{Append, Set}
use Rattle.clap.specs.declared.builder.value_parser.ValueParser.{ValueParser}
use Rattle.clap.specs.declared.builder.value_parser.ValueParser.TheVariants.{Unsigned}
use Rattle.clap.specs.Simple.{on_top}
use Rattle.clap.specs.ValueTests.{is_unsigned_in}
use Rattle.clap.specs.Walk.{is_empty}
use Rattle.jp_cells.specs.declared.style.Format.TheVariants.{Csv, Tabs}
use Rattle.jp_cells.specs.declared.style.Style.{Style}
use Rattle.jp_check.specs.declared.profile.Profile.{Profile}
use Rattle.jp_check.specs.declared.profile.Profile.TheVariants.{Standard, Extended, Decimal}
use Rattle.jp_check.specs.declared.profile.Profile.TheVariants.{ExtendedDecimal}
use Rattle.jp_command.specs.CommandLine.{is_set, query_app, with_flag}
use Rattle.jp_command.specs.Lines.{both, paths, raw_both, raw_values, values}
use Rattle.jp_limit.specs.declared.output_limit.OutputLimit.{OutputLimit}
use Rattle.jp_lines.specs.Request.{ColumnsBy, Job, KeepBy, Request, SelectBy}
use Rattle.jp_lines.specs.declared.options.Extent.{Extent}
use Rattle.jp_lines.specs.declared.options.Extent.TheVariants.{All, First}
use Rattle.jp_lines.specs.declared.options.Options.{Options}
use Rattle.jp_lines.specs.declared.options.Wanted.{Wanted}
use Rattle.jp_lines.specs.declared.options.Wanted.TheVariants.{Nodes, Count}

-- the greatest number of 64 bits
abbrev pub greatest : ℕ
greatest = 18446744073709551615

-- the command with the option of that name more, whose value is a number that the parser takes
abbrev pub with_number : App → Text → ValueParser → App
with_number app name parser = with_rule app (record (new_rule name) {
  long = Some name;
  action = Some Set;
  value_names = 1;
  parser = Some parser;
})

-- the command with the options that limit what is done for one document
abbrev pub with_limits : App → App
with_limits app = with_number (with_number (with_number app
    (codes "limit") (Unsigned 1 greatest)) (codes "max-nodes") (Unsigned 1 greatest))
    (codes "max-bytes") (Unsigned 1 greatest)

-- the command with the options of a run over lines, whose values are numbers
abbrev pub with_line_numbers : App → App
with_line_numbers app = with_limits (with_number app (codes "reports") (Unsigned 0 greatest))

-- the command with the flags that say what a run tells
abbrev pub with_tellings : App → App
with_tellings app = with_flag (with_flag (with_flag app (codes "explain")) (codes "exit-status"))
    (codes "summary")

-- the command with the flags and the options of a run over lines
abbrev pub with_line_flags : App → App
with_line_flags app = with_line_numbers (with_tellings (with_flag (with_flag (with_flag (with_flag app
    (codes "whole")) (codes "number")) (codes "keep-going")) (codes "line-buffered")))

-- the command whose further positionals are the names of inputs, which need not be given
abbrev pub with_files : App → App
with_files app = with_rule app (record (new_rule (codes "FILE")) { action = Some Append })

-- a subcommand with the query, `--extended`, names of inputs, these and `--first`
unfoldable pub lines_app : Text → App
lines_app name = with_flag (with_line_flags (with_files (query_app name))) (codes "first")

-- the same with `--raw`
unfoldable pub values_app : Text → App
values_app name = with_flag (lines_app name) (codes "raw")

-- a subcommand whose positionals, at least one, are queries and behind them names of inputs, with
-- `--extended`
unfoldable pub queries_app : Text → App
queries_app name = with_flag
    (with_rule (new_app name) (record (new_rule (codes "QUERY")) {
      required = true;
      action = Some Append;
    }))
    (codes "extended")

-- the subcommand `columns`, which also has flags for how rows are written
unfoldable pub columns_app : App
columns_app = with_flag (with_flag (with_flag (with_line_flags (queries_app (codes "columns")))
    (codes "csv")) (codes "raw")) (codes "names")

-- the subcommand whose first positional is the expression, with `--extended`, names of inputs and the
-- flags of a run
unfoldable pub keep_app : App
keep_app = with_line_flags (with_files (with_flag (with_rule (new_app (codes "keep"))
    (record (new_rule (codes "EXPRESSION")) { required = true })) (codes "extended")))

-- the command with one such subcommand more
abbrev pub with_lines : App → Text → App
with_lines app name = with_subcommand app (lines_app name).top

-- the command with one such subcommand more that has `--raw`
abbrev pub with_values : App → Text → App
with_values app name = with_subcommand app (values_app name).top

-- the command with the subcommands more that have one query
unfoldable pub with_selections : App → App
with_selections app = with_lines (with_values (with_lines (with_values app (codes "eval"))
    (codes "paths")) (codes "both")) (codes "count")

-- the command with the subcommand `keep` more
unfoldable pub with_keep : App → App
with_keep app = with_subcommand app keep_app.top

-- the command with the subcommand `columns` more
unfoldable pub with_columns : App → App
with_columns app = with_subcommand app columns_app.top

-- `jp-lines` with its subcommands, one of which is required, and a version that it tells
unfoldable pub jp_lines : App
jp_lines = on_top (λ top. record top { subcommand_required = true; has_version = true })
    (with_columns (with_keep (with_selections (new_app (codes "jp-lines")))))

-- what a subcommand's name asks to be written of each document, where texts are to be raw or not
abbrev pub wanted_called : Text → Bool → Option Wanted
wanted_called name raw =
    if bytes_eq name (codes "eval") then Some (Nodes (if raw then raw_values else values))
    else if bytes_eq name (codes "paths") then Some (Nodes paths)
    else if bytes_eq name (codes "both") then Some (Nodes (if raw then raw_both else both))
    else if bytes_eq name (codes "count") then Some Count else None

-- the number of 64 bits that a text writes in decimal
abbrev pub number_given : Text → Option ℕ
number_given text = if is_unsigned_in 0 greatest text
    then Some (digits_value 10 (without_leading_plus text)) else None

-- the number that the option of that name has, where it is given
abbrev pub number_asked : Text → List Row → Option ℕ
number_asked name rows = option_and_then number_given (one_of name rows)

-- what may come out of one document at most
abbrev pub output_limit_asked : List Row → OutputLimit
output_limit_asked rows = record {
  nodes = number_asked (codes "max-nodes") rows;
  bytes = number_asked (codes "max-bytes") rows;
}

-- the profile: with `--whole` one over whole numbers of 64 bits, else one over exact decimals, and with
-- `--extended` the one of these with its functions
abbrev pub profile_of_lines : List Row → Profile
profile_of_lines rows = if is_set (codes "whole") rows
    then (if is_set (codes "extended") rows then Extended else Standard)
    else (if is_set (codes "extended") rows then ExtendedDecimal else Decimal)

-- what the flags and the options ask for
abbrev pub options_asked : List Row → Options
options_asked rows = record {
  profile = profile_of_lines rows;
  numbered = is_set (codes "number") rows;
  keep_going = is_set (codes "keep-going") rows;
  line_buffered = is_set (codes "line-buffered") rows;
  explaining = is_set (codes "explain") rows;
  exit_status = is_set (codes "exit-status") rows;
  summary = is_set (codes "summary") rows;
  reports = number_asked (codes "reports") rows;
  limit = number_asked (codes "limit") rows;
  output_limit = output_limit_asked rows;
}

-- of which nodes it is written: with `--first` of the first alone
abbrev pub extent_asked : List Row → Extent
extent_asked rows = if is_set (codes "first") rows then First else All

-- what the subcommand of that name, which has one query, asks for
abbrev pub selection_by : Text → List Row → Option Request
selection_by name rows = option_and_then
    (λ wanted. option_map (SelectBy wanted (extent_asked rows)) (first_of (codes "QUERY") rows))
    (wanted_called name (is_set (codes "raw") rows))

-- how the rows of `columns` are written: as CSV with the flag `--csv`, texts raw with `--raw`
abbrev pub style_asked : List Row → Style
style_asked rows = record {
  format = if is_set (codes "csv") rows then Csv else Tabs;
  raw = is_set (codes "raw") rows;
}

-- a text begins with `$` (36), as every query does (RFC 9535 section 2.2.1)
abbrev pub begins_query : Text → Bool
begins_query [] = false
begins_query (c ∷ rest) = c == 36

-- how many of the words of `columns` are queries: the first, and those behind it as long as they begin
-- so; the others are names of inputs
abbrev pub query_count : List Text → ℕ
query_count [] = 0
query_count (first ∷ rest) = suc (prefix_len begins_query rest)

-- what `columns` asks for
abbrev pub columns_by : List Row → Option Request
columns_by rows = option_map (λ words. ColumnsBy (style_asked rows) (is_set (codes "names") rows)
    (take (query_count words) words)) (all_of (codes "QUERY") rows)

-- what the subcommand of that name asks for
abbrev pub request_by : Text → List Row → Option Request
request_by name rows =
    if bytes_eq name (codes "keep") then option_map KeepBy (first_of (codes "EXPRESSION") rows)
    else if bytes_eq name (codes "columns") then columns_by rows else selection_by name rows

-- the words that the positional of that name takes
abbrev pub words_of : Text → List Row → List Text
words_of name rows = unwrap_or (all_of name rows) []

-- the names of inputs among the words of `columns`
abbrev pub names_behind : List Row → List Text
names_behind rows = drop (query_count (words_of (codes "QUERY") rows)) (words_of (codes "QUERY") rows)

-- the names of the inputs of the subcommand of that name
abbrev pub inputs_by : Text → List Row → List Text
inputs_by name rows =
    if bytes_eq name (codes "columns") then names_behind rows else words_of (codes "FILE") rows

-- what the subcommand of that name asks for, all in all
abbrev pub asked_by : Text × List Row → Option Job
asked_by entered = option_map
    (λ request. record {
      options = options_asked entered.1;
      request = request;
      inputs = inputs_by entered.0 entered.1;
    })
    (request_by entered.0 entered.1)

-- what the words ask for, the program's name among them: nothing where clap finds a fault in them
abbrev pub asked : List Text → Option Job
asked words = if is_empty (fault_of jp_lines words)
    then option_and_then asked_by (subcommand_of jp_lines words) else None
