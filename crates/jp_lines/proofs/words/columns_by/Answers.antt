use Rattle.std.proofs.Common.{◌∙◌, ap, codes, map, Some, None, take}
use Rattle.clap.specs.Words.{found_of, rows_of}
use Rattle.jp_command.specs.CommandLine.{is_set}
use Rattle.jp_lines.specs.CommandLine.{query_count, style_asked}
use Rattle.jp_lines.specs.Request.{ColumnsBy}
use Rattle.jp_lines.proofs.Matches.{with_words}
use Rattle.jp_lines.proofs.words.columns_by.Goals as goal

pub returns-in-None : goal.returns-in-None
returns-in-None c =
    let found = found_of c.args.found.now in
    with_words found (codes "QUERY") None c.in-None.ensures
    (λ words. ColumnsBy (style_asked (rows_of found)) (is_set (codes "names") (rows_of found))
    (take (query_count words) words))

pub returns-in_ok-columns_of-in-Some : goal.returns-in_ok-columns_of-in-Some
returns-in_ok-columns_of-in-Some c =
    let found = found_of c.args.found.now in
    ap Some c.in_ok-columns_of-in-Some.ensures
    ∙ with_words found (codes "QUERY") (Some (map (λ t. t.now) c.in-Some.words.now)) c.in-Some.ensures
    (λ words. ColumnsBy (style_asked (rows_of found)) (is_set (codes "names") (rows_of found))
    (take (query_count words) words))
