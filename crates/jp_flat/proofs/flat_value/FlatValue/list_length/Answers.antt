use Rattle.std.proofs.Common.{◌≡◌, true, Some, sym, ap, subst, ◌∙◌}
use Rattle.jp_document.specs.Value.{list_length}
use Rattle.jp_flat.specs.Flat.{is_flat, meaning, shown}
use Rattle.jp_flat.proofs.Inside.{list-length, no-length}
use Rattle.jp_flat.proofs.flat_value.FlatValue.list_length.Goals as goal

pub returns-in-List : goal.returns-in-List
returns-in-List c =
    let t = shown c.args.self.tables.now in
    let e = c.in-List.is in
    ap Some c.from.ensures
    ∙ list-length t c.in-List.span (subst (λ i. is_flat t i ≡ true) e c.args.self.sound)
    ∙ ap (λ i. list_length (meaning t i)) (sym e)

pub returns-in-Null : goal.returns-in-Null
returns-in-Null c =
    sym (no-length (shown c.args.self.tables.now) c.args.self.item c.args.self.sound c.in-Null.is)
