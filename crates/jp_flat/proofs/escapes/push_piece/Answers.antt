use Rattle.std.proofs.Common.{◌≡◌, ◌++◌, string_bytes, rules}
use Rattle.std.specs.List.{slice_range}
use Rattle.jp_flat.proofs.Undone.{run-boundary, run-goes-on}
use Rattle.jp_flat.proofs.escapes.push_piece.Goals as goal

pub range-requires-clause-end_boundary : goal.range-requires-clause-end_boundary
range-requires-clause-end_boundary c =
    let e = c.plain_end-end.ensures in
    let same = c.as_bytes.ensures.value in
    run-boundary c.args.text.now c.args.at c.plain_end-end.result (rw same at e.value)
    (rw same at e.within)

pub returns-clause-goes : goal.returns-clause-goes
returns-clause-goes c =
    let e = c.plain_end-end.ensures in
    let same = c.as_bytes.ensures.value in
    let wrote : string_bytes c.push_str.new.self ≡ string_bytes c.args.out.now
    ++ slice_range c.args.text.now c.args.first c.plain_end-end.result = search rules in
    run-goes-on c.args.text.now _ _ c.args.first c.args.at c.plain_end-end.result
    c.requires.order.0 (rw same at e.value) (rw same at e.within) wrote

pub returns-clause-end : goal.returns-clause-end
returns-clause-end c =
    let e = c.plain_end-end.ensures in
    let same = c.as_bytes.ensures.value in
    run-boundary c.args.text.now c.args.at c.plain_end-end.result (rw same at e.value)
    (rw same at e.within)
