use Rattle.std.proofs.Common.{◌≡◌, Some, rules, sym, ◌∙◌}
use Rattle.jp_document.specs.Value.{list_length}
use Rattle.jp_tree.specs.Tree.{index}
use Rattle.jp_select.specs.Selectors.{item_of, single}
use Rattle.jp_select.proofs.Items.{item-at}
use Rattle.jp_select.proofs.candidates.item.Goals as goal

pub returns : goal.returns
returns g c =
    let v = g.V.Lent.meaning c.args.value in
    let n = c.in_ok-length.length in
    let i = c.in_ok-item_at.field-0 in
    let long : list_length v ≡ Some n = sym c.in_ok-length.ensures in
    let there : item_of v i ≡ single (index c.args.index) v = search rules in
    c.child.ensures.entry ∙ item-at v n i long ∙ there
