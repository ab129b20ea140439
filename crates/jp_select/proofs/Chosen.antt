-- What a selector chooses from stands where its step leads.
use Rattle.std.proofs.Common.{◌≡◌, ℕ, suc, List, [], ◌∷◌, Option, Some, None}
use Rattle.std.proofs.Common.{option_map, option_and_then}
use Rattle.std.proofs.Common.{option_to_list, refl}
use Rattle.std.specs.List.{All, flat_map, slice_get}
use Rattle.std.specs.Option.{option_map_or}
use Rattle.std.specs.Str.{encode_utf8_all}
use Rattle.std.proofs.lemmas.List.Elements.{All-append, All-cons, All-nil}
use Rattle.jp_document.proofs.Descent.Entries.{child-entry}
use Rattle.jp_document.specs.Location.{Step, child, entries}
use Rattle.jp_document.specs.Location.{named, nth}
use Rattle.jp_document.specs.Value.{IsDocumentValue, Value}
use Rattle.jp_tree.specs.Tree.{SelectorTree, filter, index, name, slice, wildcard}
use Rattle.jp_tree.specs.declared.tree.Numeral.TheVariants.{Beyond, Fraction, Whole}
use Rattle.jp_select.specs.Selectors.{candidates, indexes_chosen, item_at, item_entry, item_of}
use Rattle.jp_document.specs.Value.{list_length}

-- ---- each candidate stands in the value

abbrev pub StandsBelow : Value → Step × Value → Type 0
StandsBelow v e = child v e.0 ≡ Some e.1

All-each : {X : Type 0} (P : X → Type 0) (xs : List X)
    → ((i : ℕ) (x : X) → slice_get xs i ≡ Some x → P x) → All P xs
All-each P [] each = All-nil P
All-each P (x ∷ xs) each =
    All-cons P x xs (each 0 x refl) (All-each P xs (λ i y is. each (suc i) y is))

entries_stand : (v : Value) → IsDocumentValue v → All (StandsBelow v) (entries v)
entries_stand v document =
    All-each (StandsBelow v) (entries v) (λ i e is. child-entry v i e.0 e.1 document is)

-- the value one step inside, if there is one
entry_stands : (v : Value) (k : Step) (o : Option Value) → child v k ≡ o
    → All (StandsBelow v) (option_to_list (option_map (λ w. (k, w)) o))
entry_stands v k None is = All-nil (StandsBelow v)
entry_stands v k (Some w) is = All-cons (StandsBelow v) (k, w) [] is (All-nil (StandsBelow v))

item_stands : (v : Value) (o : Option ℕ)
    → All (StandsBelow v) (option_to_list (option_and_then (item_of v) o))
item_stands v None = All-nil (StandsBelow v)
item_stands v (Some i) = entry_stands v (nth i) (child v (nth i)) refl

items_stand : (v : Value) (is : List ℕ) → All (StandsBelow v) (flat_map (item_entry v) is)
items_stand v [] = All-nil (StandsBelow v)
items_stand v (i ∷ is) =
    All-append (StandsBelow v) (item_entry v i) (flat_map (item_entry v) is)
    (item_stands v (Some i)) (items_stand v is)

slice_stands : (v : Value) (indexes : ℕ → List ℕ) (o : Option ℕ)
    → All (StandsBelow v) (option_map_or (λ n. flat_map (item_entry v) (indexes n)) o [])
slice_stands v indexes None = All-nil (StandsBelow v)
slice_stands v indexes (Some n) = items_stand v (indexes n)

pub candidates_stand : (s : SelectorTree) (v : Value) → IsDocumentValue v
    → All (StandsBelow v) (candidates s v)
candidates_stand (name cs) v document =
    entry_stands v (named (encode_utf8_all cs)) (child v (named (encode_utf8_all cs))) refl
candidates_stand wildcard v document = entries_stand v document
candidates_stand (index (Whole i)) v document =
    item_stands v (option_and_then (λ n. item_at n i) (list_length v))
candidates_stand (index (Beyond d)) v document = All-nil (StandsBelow v)
candidates_stand (index (Fraction n)) v document = All-nil (StandsBelow v)
candidates_stand (slice s) v document = slice_stands v (indexes_chosen s) (list_length v)
candidates_stand (filter e) v document = entries_stand v document
