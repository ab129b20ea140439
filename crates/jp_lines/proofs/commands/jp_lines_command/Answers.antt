use Rattle.std.proofs.Common.{◌≡◌, ◌∙◌, ap, rules, true}
use Rattle.clap.specs.Simple.{on_top}
use Rattle.clap.specs.Words.{App, app_of}
use Rattle.jp_lines.specs.CommandLine.{jp_lines, with_columns, with_keep, with_selections}
use Rattle.jp_lines.proofs.commands.jp_lines_command.Goals as goal

-- what is set in the end
abbrev on_whole : App → App
on_whole = on_top (λ top. record top { subcommand_required = true; has_version = true })

pub returns : goal.returns
unfolding jp_lines
returns c =
    let top : app_of c.subcommand_required.result ≡ on_whole (app_of c.in_ok-with_columns.field-0) =
    search rules in
    top
    ∙ ap on_whole
    (c.in_ok-with_columns.ensures
    ∙ ap with_columns (c.in_ok-command-2.ensures
    ∙ ap with_keep (c.in_ok-command.ensures ∙ ap with_selections c.new.ensures.app)))
