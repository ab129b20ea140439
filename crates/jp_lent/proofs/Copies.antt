-- The values that a copy is made of: for `json_of`.
use Rattle.std.proofs.Common.{◌≡◌, ℕ, suc, List, map, None, Some, refl, ap, sym, ◌∙◌}
use Rattle.std.specs.List.{slice_get}
use Rattle.std.specs.Option.{option_map}
use Rattle.std.proofs.lemmas.Option.{slice_get-map}
use Rattle.jp_document.specs.Location.{entries, items_from, members_by_name}
use Rattle.jp_document.specs.Value.{Value, null, boolean, whole, decimal, text, list, object, Items}
use Rattle.jp_document.specs.Value.{no_items}
use Rattle.jp_document.specs.Value.{item, Members, no_members, member, items_of, members_of}
use Rattle.jp_lent.specs.Lending.{bare}
use Rattle.jp_lent.specs.Private.Copying.{as_member}

all_items : (k : ℕ) (vs : Items) → items_of (map (λ e. e.1) (items_from k vs)) ≡ vs
all_items k no_items = refl
all_items k (item v vs) = ap (item v) (all_items (suc k) vs)

all_members : (ms : Members) → members_of (map as_member (members_by_name ms)) ≡ ms
all_members no_members = refl
all_members (member n v ms) = ap (member n v) (all_members ms)

pub list-copied : (v : Value) → list no_items ≡ bare v
    → list (items_of (map (λ e. e.1) (entries v))) ≡ v
list-copied (list vs) is = ap list (all_items 0 vs)
list-copied null is = absurd (cc)
list-copied (boolean b) is = absurd (cc)
list-copied (whole z) is = absurd (cc)
list-copied (decimal c e) is = absurd (cc)
list-copied (text s) is = absurd (cc)
list-copied (object ms) is = absurd (cc)

pub object-copied : (v : Value) → object no_members ≡ bare v
    → object (members_of (map as_member (entries v))) ≡ v
object-copied (object ms) is = ap object (all_members ms)
object-copied null is = absurd (cc)
object-copied (boolean b) is = absurd (cc)
object-copied (whole z) is = absurd (cc)
object-copied (decimal c e) is = absurd (cc)
object-copied (text s) is = absurd (cc)
object-copied (list vs) is = absurd (cc)

-- ---- the part at a position, by what is made of it

pub made_at : {A B : Type 0} (f : A → B) (es : List A) (i : ℕ) (e : A) → Some e ≡ slice_get es i
    → Some (f e) ≡ slice_get (map f es) i
made_at f es i e is = ap (option_map f) is ∙ sym (slice_get-map f es i)

pub none_at : {A B : Type 0} (f : A → B) (es : List A) (i : ℕ) → None ≡ slice_get es i
    → None ≡ slice_get (map f es) i
none_at f es i is = ap (option_map f) is ∙ sym (slice_get-map f es i)
