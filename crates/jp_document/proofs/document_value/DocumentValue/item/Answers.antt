use Rattle.std.proofs.Common.{◌≡◌, map, option_map, sym, ap, subst, ◌∙◌}
use Rattle.std.specs.List.{slice_get}
use Rattle.jp_document.specs.Location.{child, entries, nth}
use Rattle.jp_document.specs.Value.{member_of, members_of, value_of}
use Rattle.jp_document.specs.declared.value.Json.{Members}
use Rattle.jp_document.proofs.Descent.Entries.{at_index, item_entry}
use Rattle.jp_document.proofs.Descent.Inside.{no_child_unless}
use Rattle.jp_document.proofs.Descent.Items.{child-nth}
use Rattle.jp_document.proofs.Members.ByName.{child-object_nth}
use Rattle.jp_document.proofs.Values.{value_of-List, value_of-Members}
use Rattle.jp_document.proofs.document_value.DocumentValue.item.Goals as goal

pub returns-in-List : goal.returns-in-List
returns-in-List c =
    let i = c.args.index in
    let vs = map value_of c.in-List.field-0.items in
    c.child.ensures.entry
    ∙ subst (λ v. slice_get (entries v) i ≡ option_map (at_index i) (child v (nth i)))
    (sym (ap value_of c.in-List.is ∙ value_of-List c.in-List.field-0))
    (item_entry i vs ∙ ap (option_map (at_index i)) (sym (child-nth i vs)))

pub returns-in-Null : goal.returns-in-Null
returns-in-Null c =
    let k = nth c.args.index in
    sym
    (ap (option_map (at_index c.args.index))
    (no_child_unless Members _ k
    (λ v. ap (λ w. child w k) (value_of-Members v)
    ∙ child-object_nth c.args.index (members_of (map member_of v.items))) c.in-Null.is))
