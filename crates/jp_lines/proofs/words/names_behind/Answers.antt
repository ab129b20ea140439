use Rattle.std.proofs.Common.{◌∙◌, ap, codes, drop, map, sym, List, Some, None}
use Rattle.std.proofs.lemmas.List.{drop-map, take_rest}
use Rattle.clap.specs.Words.{Text, found_of}
use Rattle.jp_lines.specs.CommandLine.{query_count}
use Rattle.jp_lines.proofs.Matches.{words-held}
use Rattle.jp_lines.proofs.words.names_behind.Goals as goal

-- the words behind the queries
abbrev behind : List Text → List Text
behind words = drop (query_count words) words

pub returns-in_ok-names-in-Some : goal.returns-in_ok-names-in-Some
returns-in_ok-names-in-Some c =
    let words = map (λ w. w.now) c.in-Some.words.now in
    let held = words-held (found_of c.args.found.now) (codes "QUERY") (Some words) c.in-Some.ensures in
    ap (map (λ w. w.now))
    (c.in_ok-names-in-Some.ensures ∙ take_rest c.in-Some.words.now c.query_count.result)
    ∙ sym (drop-map (λ w. w.now) c.query_count.result c.in-Some.words.now)
    ∙ ap (λ n. drop n words) c.query_count.ensures.count ∙ ap behind held

pub returns-in-None : goal.returns-in-None
returns-in-None c =
    ap (map (λ w. w.now)) c.new.ensures.items
    ∙ ap behind (words-held (found_of c.args.found.now) (codes "QUERY") None c.in-None.ensures)
