-- A list's items by their indexes.
use Rattle.std.proofs.Common.{◌≡◌, ℕ, suc, ◌<◌, List, [], ◌∷◌, length, Some, true}
use Rattle.std.proofs.Common.{zero, arith, refl, sym, ap, ◌∙◌, subst}
use Rattle.std.specs.List.{slice_get}
use Rattle.std.specs.Option.{is_some, option_map}
use Rattle.std.proofs.lemmas.Option.{same_Some}
use Rattle.jp_document.specs.Location.{child, child_entry, entries, items_from, nth}
use Rattle.jp_document.specs.Value.{Value, null, boolean, whole, decimal, text, list, object}
use Rattle.jp_document.specs.Value.{Items, no_items, item, item_count, items_of, list_length}
use Rattle.jp_document.proofs.Descent.Entries.{at_index, item_entry}
use Rattle.jp_document.proofs.Descent.Items.{child-nth}

abbrev pub item_list : Items → List Value
item_list no_items = []
item_list (item v vs) = v ∷ item_list vs

items_of-item_list : (vs : Items) → items_of (item_list vs) ≡ vs
items_of-item_list no_items = refl
items_of-item_list (item v vs) = ap (item v) (items_of-item_list vs)

pub length-item_list : (vs : Items) → length (item_list vs) ≡ item_count vs
length-item_list no_items = refl
length-item_list (item v vs) = ap suc (length-item_list vs)

pub child-item : (vs : Items) (i : ℕ) → child (list vs) (nth i) ≡ slice_get (item_list vs) i
child-item vs i =
    ap (λ l. child (list l) (nth i)) (sym (items_of-item_list vs)) ∙ child-nth i (item_list vs)

there-at : {X : Type 0} (xs : List X) (i : ℕ) → i < length xs → is_some (slice_get xs i) ≡ true
there-at [] i within = absurd (omega (arith, within))
there-at (x ∷ xs) zero within = refl
there-at (x ∷ xs) (suc i) within = there-at xs i (omega (arith, within))

-- an item below the length of a list is there
pub item-there : (v : Value) (n i : ℕ) → list_length v ≡ Some n → i < n
    → is_some (child v (nth i)) ≡ true
item-there null n i is within = absurd (cc)
item-there (boolean b) n i is within = absurd (cc)
item-there (whole z) n i is within = absurd (cc)
item-there (decimal c e) n i is within = absurd (cc)
item-there (text s) n i is within = absurd (cc)
item-there (list vs) n i is within =
    ap is_some (child-item vs i)
    ∙ there-at (item_list vs) i
    (subst (λ m. i < m) (sym (length-item_list vs ∙ same_Some _ _ is)) within)
item-there (object ms) n i is within = absurd (cc)

-- the entry of a list at an index is its item with that index
pub item-at : (v : Value) (n i : ℕ) → list_length v ≡ Some n
    → slice_get (entries v) i ≡ child_entry v (nth i)
item-at null n i is = absurd (cc)
item-at (boolean b) n i is = absurd (cc)
item-at (whole z) n i is = absurd (cc)
item-at (decimal c e) n i is = absurd (cc)
item-at (text s) n i is = absurd (cc)
item-at (list vs) n i is =
    ap (λ us. slice_get (items_from 0 us) i) (sym (items_of-item_list vs))
    ∙ item_entry i (item_list vs) ∙ ap (option_map (at_index i)) (sym (child-item vs i))
item-at (object ms) n i is = absurd (cc)
