-- How many values a list and an object have.
use Rattle.std.proofs.Common.{◌≡◌, ℕ, suc, List, [], ◌∷◌, Global, Vec, vec_len, length, map}
use Rattle.std.proofs.Common.{refl, sym, ap, ◌∙◌}
use Rattle.std.proofs.lemmas.List.{length-map}
use Rattle.jp_document.specs.Location.{entries, items_from}
use Rattle.jp_document.specs.Value.{items_of, value_of}
use Rattle.jp_document.specs.declared.value.Json.{Json, List as ListOf, Members}
use Rattle.jp_document.specs.declared.value.Member.{Member}
use Rattle.jp_document.proofs.Descent.Entries.{entry_of, members-entries}
use Rattle.jp_document.proofs.Values.{value_of-List, value_of-Members}

items-long : (k : ℕ) (xs : List Json)
    → length (items_from k (items_of (map value_of xs))) ≡ length xs
items-long k [] = refl
items-long k (x ∷ xs) = ap suc (items-long (suc k) xs)

pub item_count : (v : Vec Json Global) → length (entries (value_of (ListOf v))) ≡ vec_len v
item_count v =
    ap (λ w. length (entries w)) (value_of-List v) ∙ items-long 0 v.items ∙ sym v.ok.0

pub member_count : (v : Vec Member Global) → length (entries (value_of (Members v))) ≡ vec_len v
member_count v =
    ap (λ w. length (entries w)) (value_of-Members v) ∙ ap length (members-entries v.items)
    ∙ length-map v.items entry_of ∙ sym v.ok.0
