use Rattle.std.proofs.Common.{◌∙◌, ap, map, sym}
use Rattle.std.proofs.lemmas.List.{take-map}
use Rattle.jp_lines.specs.Request.{ColumnsBy}
use Rattle.jp_lines.proofs.words.columns_of.Goals as goal

pub returns : goal.returns
returns c =
    let queries = ap (map (λ w. w.now)) c.in_ok-queries.ensures
    ∙ sym (take-map (λ w. w.now) c.query_count.result c.args.words.now) in
    rw (← c.style_asked.ensures, ← c.is_set-named.ensures, ← c.query_count.ensures.count)
    (ap (ColumnsBy c.style_asked.result c.is_set-named.result) queries)
