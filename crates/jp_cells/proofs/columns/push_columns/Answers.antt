use Rattle.std.proofs.Common.{◌≡◌, ◌+◌, ◌≤◌, ◌++◌, ◌∙◌, ap, arith, length, map, rules, string_bytes, subst}
use Rattle.std.specs.List.{join_with_byte}
use Rattle.std.proofs.lemmas.List.{length-map, take_all}
use Rattle.jp_tree.specs.Views.{query_of}
use Rattle.jp_evaluate.specs.Nodelist.{nodelist}
use Rattle.jp_select.proofs.Stepping.{takes_then}
use Rattle.jp_cells.specs.Columns.{cell_of, columns_text, nodes_in}
use Rattle.jp_cells.specs.Fields.{field_text}
use Rattle.jp_cells.specs.Rows.{separator}
use Rattle.jp_cells.specs.Limits.{IsTooMuch}
use Rattle.jp_cells.proofs.Joining.{all-taken, goes-on, more-counted}
use Rattle.jp_cells.proofs.Lengths.{cell-in_row, counted-more, err-known, too-much}
use Rattle.jp_cells.proofs.columns.push_columns.Goals as goal

pub loop-column-preserved : goal.loop-column-preserved
loop-column-preserved g c =
    let style = c.args.style in
    let d = g.V.Lent.meaning c.args.root in
    let at = c.index-queries-column.result in
    let next : c.in_ok-count.count ≡ c.loop-column.count + c.in_ok-more.more = search rules in
    record {
      cells =
          goes-on (separator style.format) (λ q. field_text style (cell_of style.raw d q))
          (λ k. query_of k.query) c.args.queries.now c.loop-column.column at _ _ _ _
          c.loop-column-test.true c.loop-column.invariant.cells c.in_ok-push_separator.ensures
          (c.in_ok-more.ensures.cell
          ∙ ap (λ k. string_bytes c.push_separator.new.row
          ++ field_text style (cell_of style.raw d (query_of k.query))) c.index-queries-column.is);
      count =
          omega (
            arith,
            next,
            c.loop-column.invariant.count,
            c.in_ok-more.ensures.count
                ∙ ap (λ k. length (nodelist (query_of k.query) d)) c.index-queries-column.is,
            more-counted (λ q. nodelist q d) (λ k. query_of k.query) c.args.queries.now
                c.loop-column.column at c.loop-column-test.true,
          );
      taken = takes_then c.loop-column.invariant.taken c.push_column.ensures.takes;
    }

pub returns-clause-row : goal.returns-clause-row
returns-clause-row g c =
    let style = c.args.style in
    let d = g.V.Lent.meaning c.args.root in
    let qs = map (λ k. query_of k.query) c.args.queries.now in
    let from_begin : length (string_bytes c.args.row.now) ≡ c.len-begin.result = search rules in
    let raised : length c.args.queries.now ≤ c.loop-column.column = omega (arith, c.loop-column-test.false) in
    c.in_ok-end_row.ensures (string_bytes c.args.row.now)
    (join_with_byte (separator style.format) (map (field_text style) (map (cell_of style.raw d) qs)))
    (rw (all-taken (field_text style) (cell_of style.raw d) (λ k. query_of k.query) c.args.queries.now c.loop-column.column raised)
    at c.loop-column.invariant.cells)
    from_begin

pub returns-clause-count : goal.returns-clause-count
returns-clause-count g c =
    let whole : length c.args.queries.now ≤ c.loop-column.column =
    omega (arith, c.loop-column-test.false) in
    let all = map (λ k. query_of k.query) c.args.queries.now in
    c.loop-column.invariant.count
    ∙ ap (nodes_in (g.V.Lent.meaning c.args.root)) (take_all c.loop-column.column all (simp length-map whole))

pub returns-in_err-more-clause-beyond : goal.returns-in_err-more-clause-beyond
returns-in_err-more-clause-beyond g c =
    let style = c.args.style in
    let d = g.V.Lent.meaning c.args.root in
    let at = c.index-queries-column.result in
    let fault = c.in_err-more.field-0.0 in
    err-known c.from_residual-in_err-more.result fault _ c.from_residual-in_err-more.ensures.1
    (too-much c.args.limit _ _ _ _ fault
    (counted-more (λ q. nodelist q d) (λ k. query_of k.query) c.args.queries.now c.loop-column.column
    at c.loop-column-test.true)
    (cell-in_row style d (λ k. query_of k.query) c.args.queries.now c.loop-column.column at
    (string_bytes c.args.row.now) c.loop-column-test.true)
    (subst (λ k. IsTooMuch c.args.limit (length (nodelist (query_of k.query) d))
    (length (cell_of style.raw d (query_of k.query))) fault) c.index-queries-column.is
    c.in_err-more.ensures.beyond))

pub returns-in_err-stay_within-clause-beyond : goal.returns-in_err-stay_within-clause-beyond
returns-in_err-stay_within-clause-beyond g c =
    let style = c.args.style in
    let d = g.V.Lent.meaning c.args.root in
    let qs = map (λ k. query_of k.query) c.args.queries.now in
    let fault = c.in_err-stay_within.field-0.0 in
    let from_begin : length (string_bytes c.args.row.now) ≡ c.len-begin.result = search rules in
    let whole : length c.args.queries.now ≤ c.loop-column.column =
    omega (arith, c.loop-column-test.false) in
    let made : string_bytes c.end_row.new.row ≡ string_bytes c.args.row.now ++ columns_text style qs d =
    c.in_ok-end_row.ensures (string_bytes c.args.row.now)
    (join_with_byte (separator style.format) (map (field_text style) (map (cell_of style.raw d) qs)))
    (rw (all-taken (field_text style) (cell_of style.raw d) (λ k. query_of k.query) c.args.queries.now
    c.loop-column.column whole) at c.loop-column.invariant.cells)
    from_begin in
    let long : c.len.result ≡ length (string_bytes c.end_row.new.row) = search rules in
    let many : c.loop-column.count ≡ nodes_in d qs = c.loop-column.invariant.count
    ∙ ap (nodes_in d) (take_all c.loop-column.column qs (simp length-map whole)) in
    err-known c.from_residual-in_err-stay_within.result fault _
    c.from_residual-in_err-stay_within.ensures.1
    (too-much c.args.limit _ _ _ _ fault (omega (arith, many)) (omega (arith, long, ap length made))
    c.in_err-stay_within.ensures.beyond)
