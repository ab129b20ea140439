-- How much lists and objects hold.
use Rattle.std.proofs.Common.{◌≡◌, ℕ, suc, Some, length, refl, ap, ◌∙◌}
use Rattle.jp_document.specs.Location.{entries, items_from, members_by_name}
use Rattle.jp_document.specs.Value.{Value, null, boolean, whole, decimal, text, list, object, Items}
use Rattle.jp_document.specs.Value.{no_items}
use Rattle.jp_document.specs.Value.{item, item_count, Members, no_members, member, names_of}
use Rattle.jp_lent.specs.Lending.{bare}
use Rattle.jp_evaluate.specs.Functions.{size_of}

items-counted : (k : ℕ) (vs : Items) → length (items_from k vs) ≡ item_count vs
items-counted k no_items = refl
items-counted k (item v vs) = ap suc (items-counted (suc k) vs)

members-counted : (ms : Members) → length (members_by_name ms) ≡ length (names_of ms)
members-counted no_members = refl
members-counted (member n v ms) = ap suc (members-counted ms)

pub list_size : (v : Value) (n : ℕ) → list no_items ≡ bare v → n ≡ length (entries v)
    → Some n ≡ size_of (Some v)
list_size null n is long = absurd (cc)
list_size (boolean b) n is long = absurd (cc)
list_size (whole z) n is long = absurd (cc)
list_size (decimal c e) n is long = absurd (cc)
list_size (text s) n is long = absurd (cc)
list_size (list vs) n is long = ap Some (long ∙ items-counted 0 vs)
list_size (object ms) n is long = absurd (cc)

pub object_size : (v : Value) (n : ℕ) → object no_members ≡ bare v → n ≡ length (entries v)
    → Some n ≡ size_of (Some v)
object_size null n is long = absurd (cc)
object_size (boolean b) n is long = absurd (cc)
object_size (whole z) n is long = absurd (cc)
object_size (decimal c e) n is long = absurd (cc)
object_size (text s) n is long = absurd (cc)
object_size (list vs) n is long = absurd (cc)
object_size (object ms) n is long = ap Some (long ∙ members-counted ms)
