-- A `Json`, level by level, beside the value that it stands for: for each function over a `Json`.
use Rattle.std.proofs.Common.{◌≡◌, suc, List, [], ◌∷◌, Some, length, map, vec_len, Global, Vec}
use Rattle.std.proofs.Common.{string_bytes, refl, sym, ap, ◌∙◌, rules}
use Rattle.jp_document.specs.Value.{list, object, items_of, members_of, value_of, member_of}
use Rattle.jp_document.specs.Value.{item_count, list_length}
use Rattle.jp_document.specs.declared.value.Json.{Json, List as ListOf, Members, the_lemmas}
use Rattle.jp_document.specs.declared.value.Member.{Member}

pub value_of-List : (v : Vec Json Global)
    → value_of (ListOf v) ≡ list (items_of (map value_of v.items))
value_of-List v = search (rules, the_lemmas)

pub value_of-Members : (v : Vec Member Global)
    → value_of (Members v) ≡ object (members_of (map member_of v.items))
value_of-Members v = search (rules, the_lemmas)

pub member_of_is : (m : Member) → member_of m ≡ (string_bytes m.name, value_of m.value)
member_of_is m = search (rules, the_lemmas)

item_count-of : (items : List Json) → item_count (items_of (map value_of items)) ≡ length items
item_count-of [] = refl
item_count-of (x ∷ xs) = ap suc (item_count-of xs)

pub list_length-of : (v : Vec Json Global) → list_length (value_of (ListOf v)) ≡ Some (vec_len v)
list_length-of v = ap list_length (value_of-List v) ∙ ap Some (item_count-of v.items ∙ sym v.ok.0)
