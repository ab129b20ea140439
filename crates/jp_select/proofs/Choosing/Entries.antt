-- What selectors choose from, value by value.
use Rattle.std.proofs.Common.{◌≡◌, ℕ, zero, suc, ◌<◌, ℤ, List, [], ◌∷◌, ◌++◌, Option, Some}
use Rattle.std.proofs.Common.{None, true, Global, String, IsUtf8, string_bytes, option_map}
use Rattle.std.proofs.Common.{option_and_then, option_to_list, rules, refl, ap, ◌∙◌, subst}
use Rattle.std.specs.List.{All, flat_map, slice_get}
use Rattle.std.specs.Option.{is_some}
use Rattle.std.specs.Str.{chars, encode_utf8_all}
use Rattle.std.proofs.lemmas.List.Elements.{All-head, All-nil, All-tail, All-weaker}
use Rattle.std.proofs.lemmas.Str.{encodes-chars}
use Rattle.jp_document.specs.Location.{Step, child, child_entry, named, nth}
use Rattle.jp_document.specs.Value.{Value}
use Rattle.jp_tree.specs.Tree.{name, slice}
use Rattle.jp_tree.specs.Views.{selector_of}
use Rattle.jp_tree.specs.declared.tree.Expr.{the_lemmas}
use Rattle.jp_tree.specs.declared.tree.Selector.{Name}
use Rattle.jp_tree.specs.declared.tree.Slice.{Slice}
use Rattle.jp_select.specs.Selectors.{candidates, item_entry, item_of, single}
use Rattle.jp_select.specs.Selectors.{indexes_chosen, indexes_of, bound_of, whole_of}
use Rattle.jp_document.specs.Value.{list_length}
use Rattle.jp_select.proofs.Items.{item-there}
use Rattle.jp_select.proofs.Slices.Items.{slice_within}

-- ---- names

-- the member of a name is that of the name's bytes
pub single-name : (v : Value) (s : String Global) (bytes : List ℕ) → IsUtf8 bytes
    → bytes ≡ string_bytes s
    → single (selector_of (Name s)) v ≡ child_entry v (named bytes)
single-name v s bytes utf8 same =
    let tree : selector_of (Name s) ≡ name (chars (string_bytes s)) = search (rules, the_lemmas) in
    let P : List ℕ → Type 0 = λ b. encode_utf8_all (chars b) ≡ bytes in
    let spelled : encode_utf8_all (chars (string_bytes s)) ≡ bytes =
    subst P same (encodes-chars bytes utf8) in
    ap (λ t. single t v) tree ∙ ap (λ b. child_entry v (named b)) spelled

-- ---- slices

-- an item is there
abbrev IsThere : Value → ℕ → Type 0
IsThere v i = is_some (item_of v i) ≡ true

item-first : (o : Option (Step × Value)) (more : List (Step × Value)) → is_some o ≡ true
    → slice_get (option_to_list o ++ more) 0 ≡ o
item-first None more there = absurd (cc)
item-first (Some e) more there = refl

item-later : (o : Option (Step × Value)) (p : ℕ) (more : List (Step × Value)) → is_some o ≡ true
    → slice_get (option_to_list o ++ more) (suc p) ≡ slice_get more p
item-later None p more there = absurd (cc)
item-later (Some e) p more there = refl

-- items that are there, by their positions
items-at : (v : Value) (is : List ℕ) (p : ℕ) → All (IsThere v) is
    → slice_get (flat_map (item_entry v) is) p ≡ option_and_then (item_of v) (slice_get is p)
items-at v [] p all = refl
items-at v (i ∷ is) zero all =
    item-first (item_of v i) (flat_map (item_entry v) is) (All-head (IsThere v) i is all)
items-at v (i ∷ is) (suc p) all =
    item-later (item_of v i) p (flat_map (item_entry v) is) (All-head (IsThere v) i is all)
    ∙ items-at v is p (All-tail (IsThere v) i is all)

abbrev with_key : Step → Value → Step × Value
with_key k w = (k, w)

is_some-entry : (k : Step) (o : Option Value) → is_some (option_map (with_key k) o) ≡ is_some o
is_some-entry k None = refl
is_some-entry k (Some w) = refl

chosen-within : (n : ℕ) (start end : Option (Option ℤ)) (step : Option ℤ)
    → All (λ i. i < n) (indexes_of n start end step)
chosen-within n None end step = All-nil (λ i. i < n)
chosen-within n (Some a) None step = All-nil (λ i. i < n)
chosen-within n (Some a) (Some b) None = All-nil (λ i. i < n)
chosen-within n (Some a) (Some b) (Some k) = slice_within n a b k

-- what a slice selects at a position is the item with the index at that position
pub slice-entry : (v : Value) (s : Slice) (p n : ℕ) → list_length v ≡ Some n
    → slice_get (candidates (slice s) v) p ≡
    option_and_then (item_of v) (slice_get (indexes_chosen s n) p)
slice-entry v s p n is =
    let within = chosen-within n (bound_of s.start) (bound_of s.end) (whole_of s.step) in
    let there : All (IsThere v) (indexes_chosen s n) =
    All-weaker (λ i. i < n) (IsThere v)
    (λ i less. is_some-entry (nth i) (child v (nth i)) ∙ item-there v n i is less)
    (indexes_chosen s n) within in rw is (items-at v (indexes_chosen s n) p there)
