-- The numbers of a document are whole: for the law.
use Rattle.std.proofs.Common.{◌≡◌, ℕ, pos, true, List, Some, sym, ap, ◌∙◌}
use Rattle.std.proofs.lemmas.Option.{none-some, same_Some}
use Rattle.serde_json.specs.Data as parsed
use Rattle.serde_json.specs.Data.{Data, float, negative, unsigned}
use Rattle.jp_document.specs.Document.{IsDocument, items_of_data, members_of_data, value_of_data}
use Rattle.jp_document.specs.Value.{Value, null, boolean, whole, text, list, object, Items, no_items}
use Rattle.jp_document.specs.Value.{item, Members, no_members, member, everywhere, is_no_decimal}
use Rattle.jp_document.specs.Value.{everywhere_in_items, everywhere_in_members}
use Rattle.jp_reading.proofs.Conjunctions.{and-both}
use Rattle.jp_document.proofs.Options.{some_from_both, some_from_map}

mutual
  value-whole : (d : Data) (v : Value) → value_of_data d ≡ Some v → everywhere is_no_decimal v ≡ true
  value-whole parsed.null v is = ap (everywhere is_no_decimal) (sym (same_Some null v is))
  value-whole (parsed.boolean b) v is =
      ap (everywhere is_no_decimal) (sym (same_Some (boolean b) v is))
  value-whole (parsed.number (unsigned n)) v is =
      ap (everywhere is_no_decimal) (sym (same_Some (whole (pos n)) v is))
  value-whole (parsed.number (negative z)) v is =
      ap (everywhere is_no_decimal) (sym (same_Some (whole z) v is))
  value-whole (parsed.number (float x)) v is = absurd (none-some v is)
  value-whole (parsed.string s) v is =
      ap (everywhere is_no_decimal) (sym (same_Some (text s) v is))
  value-whole (parsed.array ds) v is =
      let h = some_from_map list (items_of_data ds) v is in
      ap (everywhere is_no_decimal) (sym h.2) ∙ items-whole ds h.0 h.1
  value-whole (parsed.object ms) v is =
      let h = some_from_map object (members_of_data ms) v is in
      ap (everywhere is_no_decimal) (sym h.2) ∙ members-whole ms h.0 h.1

  items-whole : (ds : parsed.Items) (vs : Items) → items_of_data ds ≡ Some vs
      → everywhere_in_items is_no_decimal vs ≡ true
  items-whole parsed.no_items vs is =
      ap (everywhere_in_items is_no_decimal) (sym (same_Some no_items vs is))
  items-whole (parsed.item d ds) vs is =
      let h = some_from_both item (value_of_data d) (items_of_data ds) vs is in
      ap (everywhere_in_items is_no_decimal) (sym h.4)
      ∙ and-both _ _ (value-whole d h.0 h.2) (items-whole ds h.1 h.3)

  members-whole : (ms : parsed.Members) (vs : Members) → members_of_data ms ≡ Some vs
      → everywhere_in_members is_no_decimal vs ≡ true
  members-whole parsed.no_members vs is =
      ap (everywhere_in_members is_no_decimal) (sym (same_Some no_members vs is))
  members-whole (parsed.member n d ms) vs is =
      let h = some_from_both (member n) (value_of_data d) (members_of_data ms) vs is in
      ap (everywhere_in_members is_no_decimal) (sym h.4)
      ∙ and-both _ _ (value-whole d h.0 h.2) (members-whole ms h.1 h.3)

pub numbers-whole : (bytes : List ℕ) (v : Value) → IsDocument bytes v → everywhere is_no_decimal v ≡ true
numbers-whole bytes v is = value-whole is.reading v is.holds
