-- A reading holds a value that a document may have, or a first number that is no whole one: for the
-- defects of bytes.
use Rattle.std.proofs.Common.{◌≡◌, ℕ, suc, true, [], ◌∷◌, Option, Some, None}
use Rattle.std.proofs.Common.{refl, sym, ap, ◌∙◌}
use Rattle.std.specs.Map.{keys_of}
use Rattle.std.proofs.lemmas.Bool.{and_from}
use Rattle.std.proofs.lemmas.Option.{same_Some}
use Rattle.serde_json.specs.Data as parsed
use Rattle.serde_json.specs.Data.{Data, float}
use Rattle.jp_document.specs.Document.{IsFirstFraction, data_items_from, data_members}
use Rattle.jp_document.specs.Document.{items_of_data, members_of_data, value_of_data}
use Rattle.jp_document.specs.Location.{Step, Location, named, nth}
use Rattle.jp_document.specs.Value.{Items, Members, Value, everywhere, everywhere_in_items}
use Rattle.jp_document.specs.Value.{everywhere_in_members, is_allowed, item, list}
use Rattle.jp_document.specs.Value.{list_fits, member, names_fit, names_of, names_rise}
use Rattle.jp_document.specs.Value.{no_items, no_members, object}
use Rattle.jp_document.proofs.Options.{none_from_both, none_from_map}
use Rattle.jp_document.proofs.Options.{some_from_both, some_from_map}
use Rattle.jp_document.proofs.Readings.Fractions.{Entries, IsAbove, IsFirstFraction-inside}
use Rattle.jp_document.proofs.Readings.Fractions.{IsFirstFraction-number, IsFirstIn, hit, skipped}
use Rattle.jp_document.proofs.Members.ByName.{each_less-from_list_all}
use Rattle.jp_reading.proofs.Conjunctions.{and-left, and-right}
use Rattle.jp_document.proofs.Readings.Ranges.{data_fits, members_read, items_fit, members_fit}
use Rattle.jp_document.proofs.Readings.Above.{IsAbove-items, IsAbove-members}

-- ---- a reading with whole numbers alone has a document's value, where its lists fit

read_names : (ms : parsed.Members) (vs : Members) → members_of_data ms ≡ Some vs
    → names_of vs ≡ keys_of (members_read ms)
read_names parsed.no_members vs is = ap names_of (sym (same_Some no_members vs is))
read_names (parsed.member n d ms) vs is =
    let parts = some_from_both (member n) (value_of_data d) (members_of_data ms) vs is in
    ap names_of (sym parts.4)
    ∙ ap (λ ns. n ∷ ns) (read_names ms parts.1 parts.3)

plain_value : (d : Data) (v w : Value) → value_of_data d ≡ Some v → value_of_data d ≡ Some w
    → everywhere is_allowed w ≡ true → everywhere is_allowed v ≡ true
plain_value d v w is same here = ap (everywhere is_allowed) (same_Some v w (sym is ∙ same)) ∙ here

mutual
  pub value_allowed : (d : Data) (v : Value) → data_fits d ≡ true → value_of_data d ≡ Some v
      → everywhere list_fits v ≡ true → everywhere is_allowed v ≡ true
  value_allowed (parsed.array ds) v fits is short =
      let vs = some_from_map list (items_of_data ds) v is in
      let lists = ap (everywhere list_fits) vs.2 ∙ short in
      ap (everywhere is_allowed) (sym vs.2)
      ∙ and_from _ _ (and-left _ _ lists) (items_allowed ds vs.0 fits vs.1 (and-right _ _ lists))
  value_allowed (parsed.object ms) v fits is short =
      let vs = some_from_map object (members_of_data ms) v is in
      let lists = ap (everywhere list_fits) vs.2 ∙ short in
      ap (everywhere is_allowed) (sym vs.2)
      ∙ and_from _ _ (ap names_fit (read_names ms vs.0 vs.1) ∙ and-left _ _ fits)
      (members_allowed ms vs.0 (and-right _ _ fits) vs.1 lists)
  value_allowed (parsed.number (float x)) v fits is short = absurd (cc)
  value_allowed d v fits is short = plain_value d v _ is refl fits

  items_allowed : (ds : parsed.Items) (vs : Items) → items_fit ds ≡ true
      → items_of_data ds ≡ Some vs → everywhere_in_items list_fits vs ≡ true
      → everywhere_in_items is_allowed vs ≡ true
  items_allowed parsed.no_items vs fits is short =
      ap (everywhere_in_items is_allowed) (sym (same_Some no_items vs is))
  items_allowed (parsed.item d ds) vs fits is short =
      let parts = some_from_both item (value_of_data d) (items_of_data ds) vs is in
      let same = sym parts.4 in
      let lists = ap (everywhere_in_items list_fits) (sym same) ∙ short in
      ap (everywhere_in_items is_allowed) same
      ∙ and_from _ _ (value_allowed d parts.0 (and-left _ _ fits) parts.2 (and-left _ _ lists))
      (items_allowed ds parts.1 (and-right _ _ fits) parts.3 (and-right _ _ lists))

  members_allowed : (ms : parsed.Members) (vs : Members) → members_fit ms ≡ true
      → members_of_data ms ≡ Some vs → everywhere_in_members list_fits vs ≡ true
      → everywhere_in_members is_allowed vs ≡ true
  members_allowed parsed.no_members vs fits is short =
      ap (everywhere_in_members is_allowed) (sym (same_Some no_members vs is))
  members_allowed (parsed.member n d ms) vs fits is short =
      let parts = some_from_both (member n) (value_of_data d) (members_of_data ms) vs is in
      let same = sym parts.4 in
      let lists = ap (everywhere_in_members list_fits) (sym same) ∙ short in
      ap (everywhere_in_members is_allowed) same
      ∙ and_from _ _ (value_allowed d parts.0 (and-left _ _ fits) parts.2 (and-left _ _ lists))
      (members_allowed ms parts.1 (and-right _ _ fits) parts.3 (and-right _ _ lists))

-- ---- a reading with no value has a first number that is no whole one

abbrev First : Data → Type 0
First d = (l : Location) × IsFirstFraction d l

abbrev FirstIn : Entries → Type 0
FirstIn es = (l : Location) × IsFirstIn es l

-- the first fraction of some entries is in their first, or among those after it
first_entry : (k : Step) (d : Data) (es : Entries) (o : Option Value) → IsAbove k es
    → value_of_data d ≡ o → (value_of_data d ≡ None → First d)
    → ((v : Value) → value_of_data d ≡ Some v → FirstIn es) → FirstIn ((k, d) ∷ es)
first_entry k d es None above is here later = let l = here is in (k ∷ l.0, hit k d es l.0 above l.1)
first_entry k d es (Some v) above is here later =
    let l = later v is in (l.0, skipped k d v es l.0 is above l.1)

mutual
  pub first_of : (d : Data) → data_fits d ≡ true → value_of_data d ≡ None → First d
  first_of (parsed.number (float x)) fits none = ([], IsFirstFraction-number x)
  first_of (parsed.array ds) fits none =
      let l = first_item 0 ds fits (none_from_map list (items_of_data ds) none) in
      (l.0, IsFirstFraction-inside (parsed.array ds) l.0 (λ y is. cc) l.1)
  first_of (parsed.object ms) fits none =
      let l =
      first_member ms (and-left _ _ (and-left _ _ fits)) (and-right _ _ fits)
      (none_from_map object (members_of_data ms) none) in
      (l.0, IsFirstFraction-inside (parsed.object ms) l.0 (λ y is. cc) l.1)
  first_of d fits none = absurd (cc)

  first_item : (i : ℕ) (ds : parsed.Items) → items_fit ds ≡ true → items_of_data ds ≡ None
      → FirstIn (data_items_from i ds)
  first_item i parsed.no_items fits none = absurd (cc)
  first_item i (parsed.item d ds) fits none =
      first_entry (nth i) d (data_items_from (suc i) ds) (value_of_data d) (IsAbove-items i ds) refl
      (first_of d (and-left _ _ fits))
      (λ v is. first_item (suc i) ds (and-right _ _ fits)
      (none_from_both item (value_of_data d) (items_of_data ds) v none is))

  first_member : (ms : parsed.Members) → names_rise (keys_of (members_read ms)) ≡ true
      → members_fit ms ≡ true → members_of_data ms ≡ None → FirstIn (data_members ms)
  first_member parsed.no_members rise fits none = absurd (cc)
  first_member (parsed.member n d ms) rise fits none =
      first_entry (named n) d (data_members ms) (value_of_data d)
      (IsAbove-members n ms (each_less-from_list_all n _ (and-left _ _ rise))) refl
      (first_of d (and-left _ _ fits))
      (λ v is. first_member ms (and-right _ _ rise) (and-right _ _ fits)
      (none_from_both (member n) (value_of_data d) (members_of_data ms) v none is))

-- ---- a document's value has no list that is too long

allowed-list_fits : (v : Value) → is_allowed v ≡ true → list_fits v ≡ true
allowed-list_fits (list vs) h = h
allowed-list_fits v h = refl

mutual
  pub fits-allowed : (v : Value) → everywhere is_allowed v ≡ true → everywhere list_fits v ≡ true
  fits-allowed (list vs) h =
      and_from _ _ (allowed-list_fits (list vs) (and-left _ _ h)) (items_fit-allowed vs (and-right _ _ h))
  fits-allowed (object ms) h = members_fit-allowed ms (and-right _ _ h)
  fits-allowed v h = refl

  items_fit-allowed : (vs : Items) → everywhere_in_items is_allowed vs ≡ true
      → everywhere_in_items list_fits vs ≡ true
  items_fit-allowed no_items h = refl
  items_fit-allowed (item v vs) h =
      and_from _ _ (fits-allowed v (and-left _ _ h)) (items_fit-allowed vs (and-right _ _ h))

  members_fit-allowed : (ms : Members) → everywhere_in_members is_allowed ms ≡ true
      → everywhere_in_members list_fits ms ≡ true
  members_fit-allowed no_members h = refl
  members_fit-allowed (member n v ms) h =
      and_from _ _ (fits-allowed v (and-left _ _ h)) (members_fit-allowed ms (and-right _ _ h))
