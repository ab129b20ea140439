use Rattle.std.proofs.Common.{◌≡◌, ◌∷◌, [], ◌+◌, ◌++◌, arith, length, refl, rules, string_bytes}
use Rattle.std.specs.List.{flat_map}
use Rattle.jp_reading.specs.Characters.{closing_bracket, opening_bracket}
use Rattle.jp_evaluate.specs.Lent.{rest_of}
use Rattle.jp_cells.specs.Cells.{values_in}
use Rattle.jp_cells.specs.Private.Lists.{behind_comma}
use Rattle.jp_cells.proofs.Lengths.{err-known, front-shorter, too-much}
use Rattle.jp_cells.proofs.Lists.{list-pushed}
use Rattle.jp_cells.proofs.columns.push_list.Goals as goal

pub returns-clause-cell : goal.returns-clause-cell
returns-clause-cell g c =
    let opened : string_bytes c.push.new.self
    ≡ string_bytes c.args.cell.now ++ opening_bracket ∷ [] = search rules in
    let closed : string_bytes c.push-2.new.self
    ≡ string_bytes c.push_others.new.cell ++ closing_bracket ∷ [] = search rules in
    list-pushed (g.V.Lent.meaning c.args.first) (g.V.Lent.meaning c.args.second)
    (values_in (rest_of g.V.Lent.meaning c.args.nodes.now)) _ _ _ _ _ _ opened
    c.in_ok-push_value.ensures.ok c.in_ok-push_behind_comma.ensures c.in_ok-others.ensures.cell
    closed

pub returns-in_err-others-clause-beyond : goal.returns-in_err-others-clause-beyond
returns-in_err-others-clause-beyond g c =
    let rest = rest_of g.V.Lent.meaning c.args.nodes.now in
    let opened : string_bytes c.push.new.self
    ≡ string_bytes c.args.cell.now ++ opening_bracket ∷ [] = search rules in
    let all = string_bytes c.push_behind_comma.new.cell ++ flat_map behind_comma (values_in rest) in
    err-known c.from_residual-in_err-others.result c.in_err-others.field-0.0 _
    c.from_residual-in_err-others.ensures.1
    (too-much c.args.limit (length rest) (2 + length rest) (length all) _ c.in_err-others.field-0.0
    (omega arith)
    (front-shorter all (closing_bracket ∷ []) _
    (list-pushed (g.V.Lent.meaning c.args.first) (g.V.Lent.meaning c.args.second) (values_in rest)
    _ _ _ _ _ _ opened c.in_ok-push_value.ensures.ok c.in_ok-push_behind_comma.ensures refl refl))
    c.in_err-others.ensures.beyond)
