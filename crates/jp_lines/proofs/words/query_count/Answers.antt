use Rattle.std.proofs.Common.{map, ◌∙◌, sym}
use Rattle.jp_lines.proofs.QueryWords.{counts-on_first, counts-on_next, counts_all, counts_to}
use Rattle.jp_lines.proofs.words.query_count.Goals as goal

pub loop-place-init : goal.loop-place-init
loop-place-init c = counts-on_first (map (λ w. w.now) c.args.words.now)

pub returns-then-not-begins_query-clause-count : goal.returns-then-not-begins_query-clause-count
returns-then-not-begins_query-clause-count c =
    counts_to c.args.words.now c.loop-place.place _ c.loop-place-test.true
    (sym c.if-not-begins_query.true ∙ c.begins_query.ensures) c.loop-place.invariant

pub loop-place-preserved : goal.loop-place-preserved
loop-place-preserved c =
    counts-on_next c.args.words.now c.loop-place.place _ c.loop-place-test.true
    (sym c.if-not-begins_query.false ∙ c.begins_query.ensures) c.loop-place.invariant

pub returns-clause-count : goal.returns-clause-count
returns-clause-count c =
    counts_all c.args.words.now c.loop-place.place c.loop-place-test.false
    c.loop-place.auto.place-end c.loop-place.invariant
