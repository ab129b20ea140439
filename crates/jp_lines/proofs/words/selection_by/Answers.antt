use Rattle.std.proofs.Common.{◌∙◌, ap, codes, Some, None, option_map}
use Rattle.clap.specs.Words.{found_of, rows_of}
use Rattle.jp_command.proofs.Matches.{with_query}
use Rattle.jp_command.specs.CommandLine.{is_set}
use Rattle.jp_lines.specs.CommandLine.{extent_asked, wanted_called}
use Rattle.jp_lines.specs.Request.{SelectBy}
use Rattle.jp_lines.specs.Views.{request_of}
use Rattle.jp_lines.proofs.words.selection_by.Goals as goal

pub returns-in_err-query : goal.returns-in_err-query
returns-in_err-query c =
    let rows = rows_of (found_of c.args.found.now) in
    ap (option_map request_of) c.from_residual-in_err-query.ensures
    ∙ with_query (λ wanted. SelectBy wanted (extent_asked rows)) (found_of c.args.found.now) c.in_ok-wanted.wanted
    (wanted_called c.args.name.now (is_set (codes "raw") rows)) None (c.in_ok-wanted.ensures ∙ ap (wanted_called c.args.name.now) c.is_set.ensures)
    c.in_err-query.ensures

pub returns : goal.returns
returns c =
    let rows = rows_of (found_of c.args.found.now) in
    rw c.extent_asked.ensures (with_query (λ wanted. SelectBy wanted (extent_asked rows)) (found_of c.args.found.now) c.in_ok-wanted.wanted
    (wanted_called c.args.name.now (is_set (codes "raw") rows)) (Some c.in_ok-query.query.now) (c.in_ok-wanted.ensures ∙ ap (wanted_called c.args.name.now) c.is_set.ensures)
    c.in_ok-query.ensures)
