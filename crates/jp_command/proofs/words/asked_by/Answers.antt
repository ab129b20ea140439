use Rattle.std.proofs.Common.{◌∙◌, ap, Some, None, codes, option_map}
use Rattle.clap.specs.Words.{found_of, rows_of}
use Rattle.jp_command.specs.CommandLine.{flags_asked, is_set, profile_asked, task_called}
use Rattle.jp_command.specs.Private.Asked.{parts_of}
use Rattle.jp_command.proofs.Matches.{with_query}
use Rattle.jp_command.proofs.words.asked_by.Goals as goal

pub returns-in_err-query : goal.returns-in_err-query
returns-in_err-query c =
    let found = found_of c.args.found.now in
    let rows = rows_of found in
    ap (option_map parts_of) c.from_residual-in_err-query.ensures
    ∙ with_query (λ task query. (task, query, profile_asked rows, is_set (codes "explain") rows))
    found c.in_ok-task.task (task_called c.args.name.now (flags_asked rows)) None
    (c.in_ok-task.ensures ∙ ap (task_called c.args.name.now) c.flags_asked.ensures)
    c.in_err-query.ensures

pub returns : goal.returns
returns c =
    let found = found_of c.args.found.now in
    let rows = rows_of found in
    rw (c.profile_asked.ensures, c.is_set.ensures)
    (with_query (λ task query. (task, query, profile_asked rows, is_set (codes "explain") rows))
    found c.in_ok-task.task (task_called c.args.name.now (flags_asked rows))
    (Some c.in_ok-query.query.now)
    (c.in_ok-task.ensures ∙ ap (task_called c.args.name.now) c.flags_asked.ensures)
    c.in_ok-query.ensures)
