-- The entries of a value by their positions, and that their steps rise: for
-- `DocumentValue::child` and for walks in document order.
use Rattle.std.proofs.Common.{◌≡◌, ℕ, zero, suc, ◌+◌, ◌<◌, true, List, [], ◌∷◌}
use Rattle.std.proofs.Common.{map, Option, Some, Less, refl, sym, ap, ap₂, ◌∙◌, arith}
use Rattle.std.proofs.Common.{string_bytes}
use Rattle.std.specs.Cmp.{nat_cmp_is}
use Rattle.std.specs.List.{slice_get, AllByRecursion}
use Rattle.std.specs.List.Sorted.{IsStrictlySortedBy}
use Rattle.std.specs.Map.{keys_of}
use Rattle.std.specs.Option.{option_map}
use Rattle.std.proofs.lemmas.Cmp.{eq_by_cmp_equiv}
use Rattle.std.proofs.lemmas.Map.Entries.{lookup_from_place}
use Rattle.std.proofs.lemmas.Map.Keys.{IsDistinct-from_sorted}
use Rattle.std.proofs.lemmas.Option.{slice_get-map}
use Rattle.jp_document.specs.Location.{Step, named, nth, step_cmp, Location}
use Rattle.jp_document.specs.Location.{items_from, members_by_name, entries, child}
use Rattle.jp_document.specs.Node.{node_below}
use Rattle.jp_document.specs.Value.{Value, list, object, Items}
use Rattle.jp_document.specs.Value.{no_items, item, Members, no_members, member, items_of}
use Rattle.jp_document.specs.Value.{members_of, names_of}
use Rattle.jp_document.specs.Value.{has_rising_names, is_allowed}
use Rattle.jp_document.specs.Value.{IsDocumentValue, NamesRise, member_of, value_of}
use Rattle.jp_document.specs.declared.value.Member.{Member}
use Rattle.jp_document.proofs.Values.{member_of_is}
use Rattle.jp_document.proofs.Members.ByName.{bytes_cmp, sorted_from_rise}
use Rattle.jp_document.proofs.Descent.Inside.{IsDocumentValue-child, everywhere-weaker}
use Rattle.jp_document.proofs.Descent.Steps.{step_cmp_total}
use Rattle.jp_reading.proofs.Conjunctions.{and-left}

abbrev pub at_index : ℕ → Value → Step × Value
at_index i v = (nth i, v)

-- ---- by positions

entry_of_item : (n k i : ℕ) (vs : List Value) → n ≡ k + i
    → slice_get (items_from k (items_of vs)) i ≡ option_map (at_index n) (slice_get vs i)
entry_of_item n k i [] at = refl
entry_of_item n k zero (v ∷ vs) at =
    let same : k ≡ n = omega arith in ap (λ m. Some (at_index m v)) same
entry_of_item n k (suc i) (v ∷ vs) at = entry_of_item n (suc k) i vs (omega arith)

pub item_entry : (i : ℕ) (vs : List Value)
    → slice_get (items_from 0 (items_of vs)) i ≡ option_map (at_index i) (slice_get vs i)
item_entry i vs = entry_of_item i 0 i vs (omega arith)

-- the entry of a member
abbrev pub entry_of : Member → Step × Value
entry_of m = (named (string_bytes m.name), value_of m.value)

pub members-entries : (ms : List Member)
    → members_by_name (members_of (map member_of ms)) ≡ map entry_of ms
members-entries [] = refl
members-entries (m ∷ ms) =
    ap₂ (λ p es. (named p.0, p.1) ∷ es) (member_of_is m) (members-entries ms)

-- the child at a position, beside the entry
pub child_at_position : (l : Location) (es : List (Step × Value)) (i : ℕ) (o : Option (Step × Value))
    → o ≡ slice_get es i → option_map (node_below l) o ≡ slice_get (map (node_below l) es) i
child_at_position l es i o is =
    ap (option_map (node_below l)) is ∙ sym (slice_get-map (node_below l) es i)

-- ---- the steps rise

above : (j k : ℕ) (vs : Items) → j < k
    → AllByRecursion (λ y. step_cmp (nth j) y ≡ Less) (keys_of (items_from k vs))
above j k no_items less = tt
above j k (item v vs) less = (sym (nat_cmp_is j k Less less), above j (suc k) vs (omega arith))

items-rise : (k : ℕ) (vs : Items) → IsStrictlySortedBy step_cmp (keys_of (items_from k vs))
unfolding IsStrictlySortedBy
items-rise k no_items = tt
items-rise k (item v vs) = (above k (suc k) vs (omega arith), items-rise (suc k) vs)

named_above : (n : List ℕ) (ms : Members)
    → AllByRecursion (λ m. bytes_cmp n m ≡ Less) (names_of ms)
    → AllByRecursion (λ y. step_cmp (named n) y ≡ Less) (keys_of (members_by_name ms))
named_above n no_members h = tt
named_above n (member m v ms) h = (h.0, named_above n ms h.1)

members-rise : (ms : Members) → IsStrictlySortedBy bytes_cmp (names_of ms)
    → IsStrictlySortedBy step_cmp (keys_of (members_by_name ms))
unfolding IsStrictlySortedBy
members-rise no_members h = tt
members-rise (member n v ms) h = (named_above n ms h.0, members-rise ms h.1)

pub entries-rise_by_names : (v : Value) → NamesRise v
    → IsStrictlySortedBy step_cmp (keys_of (entries v))
unfolding IsStrictlySortedBy
entries-rise_by_names (list vs) rise = items-rise 0 vs
entries-rise_by_names (object ms) rise =
    members-rise ms (sorted_from_rise (names_of ms) (and-left _ _ rise))
entries-rise_by_names v rise = tt

allowed-rising : (v : Value) → is_allowed v ≡ true → has_rising_names v ≡ true
allowed-rising (object ms) allowed = and-left _ _ allowed
allowed-rising v allowed = refl

pub document-names_rise : (v : Value) → IsDocumentValue v → NamesRise v
document-names_rise = everywhere-weaker is_allowed has_rising_names allowed-rising

pub entries-rise : (v : Value) → IsDocumentValue v
    → IsStrictlySortedBy step_cmp (keys_of (entries v))
entries-rise v document = entries-rise_by_names v (document-names_rise v document)

-- the value one step inside at an entry's step is the entry's
pub child-entry : (v : Value) (i : ℕ) (k : Step) (w : Value) → IsDocumentValue v
    → slice_get (entries v) i ≡ Some (k, w) → child v k ≡ Some w
child-entry v i k w document is =
    lookup_from_place (eq_by_cmp_equiv step_cmp_total) (entries v) i k w
    (IsDistinct-from_sorted step_cmp (keys_of (entries v)) (entries-rise v document)) is

pub IsDocumentValue-entry : (v : Value) (i : ℕ) (e : Step × Value) → IsDocumentValue v
    → slice_get (entries v) i ≡ Some e → IsDocumentValue e.1
IsDocumentValue-entry v i e document is =
    IsDocumentValue-child v e.1 e.0 document (child-entry v i e.0 e.1 document is)
