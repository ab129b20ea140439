-- The value of a text may be a document's, where its numbers can be held and its lists fit.
use Rattle.std.proofs.Common.{◌≡◌, ◌&&◌, ℕ, Bool, true, List, [], refl, ap, ◌∙◌}
use Rattle.std.specs.BTreeMap.{insert_entry}
use Rattle.std.specs.List.{list_all}
use Rattle.std.specs.Map.{keys_of}
use Rattle.std.specs.Str.{is_utf8}
use Rattle.std.proofs.lemmas.Bool.{and_from}
use Rattle.json.specs.Json as json
use Rattle.jp_decimal.specs.Number.{is_in_64_bits}
use Rattle.jp_decimal.specs.TextValue.{value_of_text}
use Rattle.jp_document.specs.Value.{Items, Members, NamesRise, Value, boolean, decimal, everywhere}
use Rattle.jp_document.specs.Value.{everywhere_in_items, everywhere_in_members, has_rising_names}
use Rattle.jp_document.specs.Value.{is_allowed, item, list, list_fits, member, names_of}
use Rattle.jp_document.specs.Value.{names_rise, no_items, no_members, null, object, text, whole}
use Rattle.jp_document.proofs.Descent.Inside.{all-members, everywhere-weaker}
use Rattle.jp_document.proofs.Members.ByName.{bytes_cmp, names_of-members_of}
use Rattle.jp_document.proofs.Members.Inserting.{insert_all, keys_by, keys_rise}
use Rattle.jp_document.proofs.NumberValues.{number-always}
use Rattle.jp_document.proofs.Utf8.Parsed.{items_texts, json_texts, members_texts}
use Rattle.jp_reading.proofs.Conjunctions.{and-left, and-right}
use Rattle.jp_exact.specs.Defects.{is_held}
use Rattle.jp_exact.specs.Private.ExactValue.{items_in, members_in, value_in}

abbrev Pair : Type 0
Pair = List ℕ × Value

-- ---- names rise in it

number-rises : (s : List ℕ) → NamesRise (value_in (json.number s))
number-rises s =
    number-always (everywhere has_rising_names) (λ z fit. refl) (λ c e. refl) (value_of_text s)

mutual
  pub value-rises : (j : json.Json) → NamesRise (value_in j)
  value-rises json.null = refl
  value-rises (json.boolean b) = refl
  value-rises (json.number s) = number-rises s
  value-rises (json.string s) = refl
  value-rises (json.array js) = items-rise js
  value-rises (json.object ms) =
      let so = members-rise ms [] refl refl in
      and_from _ _ (ap names_rise (names_of-members_of (members_in ms [])) ∙ so.0)
      (all-members has_rising_names (members_in ms []) ∙ so.1)

  items-rise : (js : json.Items) → everywhere_in_items has_rising_names (items_in js) ≡ true
  items-rise json.no_items = refl
  items-rise (json.item j js) = and_from _ _ (value-rises j) (items-rise js)

  members-rise : (ms : json.Members) (found : List Pair) → names_rise (keys_of found) ≡ true
      → list_all (λ e. everywhere has_rising_names e.1) found ≡ true
      → (names_rise (keys_of (members_in ms found)) ≡ true)
      × (list_all (λ e. everywhere has_rising_names e.1) (members_in ms found) ≡ true)
  members-rise json.no_members found names all = (names, all)
  members-rise (json.member k j ms) found names all =
      members-rise ms (insert_entry bytes_cmp found k (value_in j))
      (keys_rise found k (value_in j) names)
      (insert_all (everywhere has_rising_names) found k (value_in j) all (value-rises j))

-- ---- its texts and names are texts, and its whole numbers are of 64 bits

abbrev pub is_sound : Value → Bool
is_sound null = true
is_sound (boolean b) = true
is_sound (whole z) = is_in_64_bits z
is_sound (decimal c e) = true
is_sound (text s) = is_utf8 s
is_sound (list vs) = true
is_sound (object ms) = list_all is_utf8 (names_of ms)

number-sound : (s : List ℕ) → everywhere is_sound (value_in (json.number s)) ≡ true
number-sound s = number-always (everywhere is_sound) (λ z fit. fit) (λ c e. refl) (value_of_text s)

mutual
  pub value-sound : (j : json.Json) → json_texts j ≡ true → everywhere is_sound (value_in j) ≡ true
  value-sound json.null texts = refl
  value-sound (json.boolean b) texts = refl
  value-sound (json.number s) texts = number-sound s
  value-sound (json.string s) texts = texts
  value-sound (json.array js) texts = items-sound js texts
  value-sound (json.object ms) texts =
      let so = members-sound ms [] texts refl refl in
      and_from _ _ (ap (list_all is_utf8) (names_of-members_of (members_in ms [])) ∙ so.0)
      (all-members is_sound (members_in ms []) ∙ so.1)

  items-sound : (js : json.Items) → items_texts js ≡ true
      → everywhere_in_items is_sound (items_in js) ≡ true
  items-sound json.no_items texts = refl
  items-sound (json.item j js) texts =
      and_from _ _ (value-sound j (and-left _ _ texts)) (items-sound js (and-right _ _ texts))

  members-sound : (ms : json.Members) (found : List Pair) → members_texts ms ≡ true
      → list_all is_utf8 (keys_of found) ≡ true
      → list_all (λ e. everywhere is_sound e.1) found ≡ true
      → (list_all is_utf8 (keys_of (members_in ms found)) ≡ true)
      × (list_all (λ e. everywhere is_sound e.1) (members_in ms found) ≡ true)
  members-sound json.no_members found texts names all = (names, all)
  members-sound (json.member k j ms) found texts names all =
      let later = and-right _ _ texts in
      members-sound ms (insert_entry bytes_cmp found k (value_in j)) (and-right _ _ later)
      (keys_by is_utf8 found k (value_in j) names (and-left _ _ texts))
      (insert_all (everywhere is_sound) found k (value_in j) all
      (value-sound j (and-left _ _ later)))

-- ---- what a document asks of its value, part by part

mutual
  pub allowed-from : (v : Value) → NamesRise v → everywhere is_sound v ≡ true
      → everywhere is_held v ≡ true → everywhere list_fits v ≡ true → everywhere is_allowed v ≡ true
  allowed-from null rise sound held short = refl
  allowed-from (boolean b) rise sound held short = refl
  allowed-from (whole z) rise sound held short = sound
  allowed-from (decimal c e) rise sound held short = held
  allowed-from (text s) rise sound held short = sound
  allowed-from (list vs) rise sound held short =
      and_from _ _ (and-left _ _ short) (items-allowed vs rise sound held (and-right _ _ short))
  allowed-from (object ms) rise sound held short =
      let names = names_rise (names_of ms) in
      let texts = list_all is_utf8 (names_of ms) in
      let rising = everywhere_in_members has_rising_names ms in
      let sounds = everywhere_in_members is_sound ms in
      and_from (names && texts) (everywhere_in_members is_allowed ms)
      (and_from names texts (and-left names rising rise) (and-left texts sounds sound))
      (members-allowed ms (and-right names rising rise) (and-right texts sounds sound) held
      short)

  items-allowed : (vs : Items) → everywhere_in_items has_rising_names vs ≡ true
      → everywhere_in_items is_sound vs ≡ true → everywhere_in_items is_held vs ≡ true
      → everywhere_in_items list_fits vs ≡ true → everywhere_in_items is_allowed vs ≡ true
  items-allowed no_items rise sound held short = refl
  items-allowed (item v vs) rise sound held short =
      and_from _ _
      (allowed-from v (and-left _ _ rise) (and-left _ _ sound) (and-left _ _ held)
      (and-left _ _ short))
      (items-allowed vs (and-right _ _ rise) (and-right _ _ sound) (and-right _ _ held)
      (and-right _ _ short))

  members-allowed : (ms : Members) → everywhere_in_members has_rising_names ms ≡ true
      → everywhere_in_members is_sound ms ≡ true → everywhere_in_members is_held ms ≡ true
      → everywhere_in_members list_fits ms ≡ true → everywhere_in_members is_allowed ms ≡ true
  members-allowed no_members rise sound held short = refl
  members-allowed (member n v ms) rise sound held short =
      and_from _ _
      (allowed-from v (and-left _ _ rise) (and-left _ _ sound) (and-left _ _ held)
      (and-left _ _ short))
      (members-allowed ms (and-right _ _ rise) (and-right _ _ sound) (and-right _ _ held)
      (and-right _ _ short))

allowed-held : (v : Value) → is_allowed v ≡ true → is_held v ≡ true
allowed-held (decimal c e) allowed = allowed
allowed-held v allowed = refl

pub held-allowed : (v : Value) → everywhere is_allowed v ≡ true → everywhere is_held v ≡ true
held-allowed = everywhere-weaker is_allowed is_held allowed-held
