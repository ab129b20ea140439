use Rattle.std.proofs.Common.{◌≡◌, Some, option_and_then, sym, ap, ◌∙◌}
use Rattle.std.specs.List.{slice_get}
use Rattle.jp_document.specs.Location.{entries}
use Rattle.jp_document.specs.Value.{list_length}
use Rattle.jp_select.specs.Selectors.{item_of}
use Rattle.jp_select.proofs.Choosing.Entries.{slice-entry}
use Rattle.jp_select.proofs.Items.{item-at}
use Rattle.jp_select.proofs.candidates.slice_place.Goals as goal

pub returns-in_err-slice_index-clause-place : goal.returns-in_err-slice_index-clause-place
returns-in_err-slice_index-clause-place g c =
    let v = g.V.Lent.meaning c.args.value in
    let n = c.in_ok-length.length in
    let long : list_length v ≡ Some n = sym c.in_ok-length.ensures in
    ap (option_and_then (slice_get (entries v))) c.from_residual-in_err-slice_index.ensures
    ∙ ap (option_and_then (item_of v)) c.in_err-slice_index.ensures.index
    ∙ sym (slice-entry v c.args.slice c.args.position n long)

pub returns-clause-place : goal.returns-clause-place
returns-clause-place g c =
    let v = g.V.Lent.meaning c.args.value in
    let n = c.in_ok-length.length in
    let long : list_length v ≡ Some n = sym c.in_ok-length.ensures in
    item-at v n c.in_ok-slice_index.field-0 long
    ∙ ap (option_and_then (item_of v)) c.in_ok-slice_index.ensures.index
    ∙ sym (slice-entry v c.args.slice c.args.position n long)
