-- What the words of a command line ask for: the command line as clap reads it, and the task, the
-- query, the profile and the flag `--explain` that it finds in the words. `Line` cites it.
use Rattle.std.specs.Prelude.{Bool, true, false, List, Option, Some, None, codes, if◌then◌else◌}
use Rattle.std.specs.Prelude.{option_and_then, option_map}
use Rattle.std.specs.Option.{option_map_or}
use Rattle.std.specs.Str.{bytes_eq}
use Rattle.clap.specs.Words.{App, Row, Text, fault_of, first_of, new_app, new_rule, one_of}
use Rattle.clap.specs.Words.{subcommand_of, with_rule, with_subcommand}
use Rattle.clap.specs.declared.builder.action.ArgAction.TheVariants.{SetTrue}
use Rattle.clap.specs.Simple.{on_top}
use Rattle.clap.specs.Walk.{is_empty}
use Rattle.jp_check.specs.declared.profile.Profile.{Profile}
use Rattle.jp_check.specs.declared.profile.Profile.TheVariants.{Standard, Extended, Decimal}
use Rattle.jp_check.specs.declared.profile.Profile.TheVariants.{ExtendedDecimal}
use Rattle.jp_command.specs.Lines.{both, paths, raw_both, raw_values, values}
use Rattle.jp_command.specs.declared.form.Form.{Form}
use Rattle.jp_command.specs.declared.words.NodeFlags.{NodeFlags}
use Rattle.jp_command.specs.declared.words.Task.{Task}
use Rattle.jp_command.specs.declared.words.Task.TheVariants.{Check, Canon, Eval}

-- the command with one flag more, which is on or off
abbrev pub with_flag : App → Text → App
with_flag app name =
    with_rule app (record (new_rule name) { long = Some name; action = Some SetTrue })

-- a subcommand with exactly one positional, the query, which is required, and the flag `--extended`
unfoldable pub query_app : Text → App
query_app name = with_flag
    (with_rule (new_app name) (record (new_rule (codes "QUERY")) { required = true }))
    (codes "extended")

-- a subcommand that also has the flag `--decimals`
abbrev pub numbers_app : Text → App
numbers_app name = with_flag (query_app name) (codes "decimals")

-- a subcommand of `jp`, which also has the flag `--explain`
abbrev pub task_app : Text → App
task_app name = with_flag (numbers_app name) (codes "explain")

-- the command with one such subcommand more
abbrev pub with_task : App → Text → App
with_task app name = with_subcommand app (task_app name).top

-- a subcommand that writes nodes, and so has the flags `--first` and `--exit-status`
abbrev pub nodes_app : Text → App
nodes_app name = with_flag (with_flag (task_app name) (codes "first")) (codes "exit-status")

-- the command with one such subcommand more
abbrev pub with_nodes_task : App → Text → App
with_nodes_task app name = with_subcommand app (nodes_app name).top

-- the command with one such subcommand more that writes values, and so has the flag `--raw`
abbrev pub with_raw_task : App → Text → App
with_raw_task app name = with_subcommand app (with_flag (nodes_app name) (codes "raw")).top

-- `jp` with its subcommands, one of which is required, and a version that it tells
unfoldable pub jp : App
jp = on_top (λ top. record top { subcommand_required = true; has_version = true })
    (with_raw_task (with_nodes_task (with_raw_task (with_task (with_task (new_app (codes "jp"))
    (codes "check")) (codes "canon")) (codes "eval")) (codes "paths")) (codes "both"))

-- whether a flag is given, whose value clap then makes `true`
abbrev pub is_set : Text → List Row → Bool
is_set flag rows = option_map_or (bytes_eq (codes "true")) (one_of flag rows) false

-- what the flags say of nodes: with `--raw` their values are raw, with `--first` the first is written alone, and
-- with `--exit-status` the status tells that there are none
abbrev pub flags_asked : List Row → NodeFlags
flags_asked rows = record {
  is_raw = is_set (codes "raw") rows;
  is_first = is_set (codes "first") rows;
  tells_none = is_set (codes "exit-status") rows;
}

-- the nodes in that form, of which the flags say which
abbrev pub flagged : NodeFlags → Form → Task
flagged flags form =
    Eval (record { form = form; is_first = flags.is_first; tells_none = flags.tells_none })

-- the task that a subcommand's name stands for, with these flags
abbrev pub task_called : Text → NodeFlags → Option Task
task_called name flags =
    if bytes_eq name (codes "check") then Some Check
    else if bytes_eq name (codes "canon") then Some Canon
    else if bytes_eq name (codes "eval")
    then Some (flagged flags (if flags.is_raw then raw_values else values))
    else if bytes_eq name (codes "paths") then Some (flagged flags paths)
    else if bytes_eq name (codes "both")
    then Some (flagged flags (if flags.is_raw then raw_both else both)) else None

-- the profile: `Extended` with the flag `--extended`, and with `--decimals` the one with its functions and
-- decimals
abbrev pub profile_asked : List Row → Profile
profile_asked rows = if is_set (codes "decimals") rows
    then (if is_set (codes "extended") rows then ExtendedDecimal else Decimal)
    else (if is_set (codes "extended") rows then Extended else Standard)

-- the task, the query and the profile of the subcommand that the words name, and whether a query
-- that is refused is to be explained
abbrev pub asked_by : Text × List Row → Option (Task × Text × Profile × Bool)
asked_by entered = option_and_then
    (λ task. option_map
    (λ query. (task, query, profile_asked entered.1, is_set (codes "explain") entered.1))
    (first_of (codes "QUERY") entered.1)) (task_called entered.0 (flags_asked entered.1))

-- what the words ask for, the program's name among them: nothing where clap finds a fault in them
abbrev pub asked : List Text → Option (Task × Text × Profile × Bool)
asked words = if is_empty (fault_of jp words)
    then option_and_then asked_by (subcommand_of jp words) else None
