use Rattle.std.proofs.Common.{◌≡◌, true, option_map, sym, ap, subst, ◌∙◌}
use Rattle.std.specs.List.{slice_get}
use Rattle.jp_document.specs.Location.{child, entries, nth}
use Rattle.jp_document.proofs.Descent.Entries.{at_index}
use Rattle.jp_flat.specs.Flat.{is_flat, meaning, shown}
use Rattle.jp_flat.proofs.Inside.{no-item}
use Rattle.jp_flat.proofs.Lookups.{list-child}
use Rattle.jp_flat.proofs.flat_value.FlatValue.item.Goals as goal

pub returns-in-List : goal.returns-in-List
returns-in-List c =
    let t = shown c.args.self.tables.now in
    let k = c.args.index in
    let e = c.in-List.is in
    c.child.ensures.entry
    ∙ subst (λ i. slice_get (entries (meaning t i)) k
    ≡ option_map (at_index k) (child (meaning t i) (nth k))) (sym e)
    (list-child t c.in-List.field-0 k (subst (λ i. is_flat t i ≡ true) e c.args.self.sound))

pub returns-in-Null : goal.returns-in-Null
returns-in-Null c =
    sym
    (ap (option_map (at_index c.args.index))
    (no-item (shown c.args.self.tables.now) c.args.self.item c.args.index c.args.self.sound
    c.in-Null.is))
