-- What is read with whole numbers alone is read so by `serde_json` too: for documents.
use Rattle.std.proofs.Common.{◌≡◌, ℕ, List, [], ◌∷◌, map, Some, refl, sym, ap, ◌∙◌}
use Rattle.std.specs.BTreeMap.{insert_entry}
use Rattle.std.specs.Option.{option_map, option_and_then}
use Rattle.std.specs.Ordering.{match_ordering}
use Rattle.std.proofs.lemmas.Option.{same_Some}
use Rattle.json.specs.Json as json
use Rattle.serde_json.specs.Data as parsed
use Rattle.serde_json.specs.Data.{Data, put}
use Rattle.serde_json.specs.Read.{number_of, of_items, of_json, of_members, read}
use Rattle.jp_document.specs.Document.{items_of_data, members_of_data, value_of_data}
use Rattle.jp_document.specs.Value.{Items, Value, item, list, member, members_of}
use Rattle.jp_document.specs.Value.{object}
use Rattle.jp_document.proofs.Members.ByName.{bytes_cmp}
use Rattle.jp_document.proofs.Members.Inserting.{through}
use Rattle.jp_document.proofs.Options.{some_from_both, some_from_map, some_from_then}
use Rattle.jp_document.specs.OfJson.{items_of_json, members_of_json, value_of_json}
use Rattle.jp_flat.specs.Private.FromTokens.{ReadsText}
use Rattle.jp_document.specs.NumberTexts.{whole_number}

-- ---- members with the data that is read of them

pub record ReadMember (R : Data → Value → Type 0) : Type 0 where
  pub name : List ℕ
  pub reading : Data
  pub value : Value
  pub holds : R reading value

abbrev Holds : Data → Value → Type 0
Holds d v = value_of_data d ≡ Some v

abbrev pub pair : {R : Data → Value → Type 0} → ReadMember R → List ℕ × Value
pair e = (e.name, e.value)

abbrev pub data_of : {R : Data → Value → Type 0} → List (ReadMember R) → parsed.Members
data_of [] = parsed.no_members
data_of (e ∷ es) = parsed.member e.name e.reading (data_of es)

pub members_of_data-entries : (es : List (ReadMember Holds))
    → members_of_data (data_of es) ≡ Some (members_of (map pair es))
members_of_data-entries [] = refl
members_of_data-entries (e ∷ es) =
    ap (option_and_then (λ w. option_map (member e.name w) (members_of_data (data_of es)))) e.holds
    ∙ ap (option_map (member e.name e.value)) (members_of_data-entries es)

-- the same entry under a name of equal bytes
abbrev renamed : {R : Data → Value → Type 0} → List ℕ → ReadMember R → ReadMember R
renamed n x = record { name = n; reading = x.reading; value = x.value; holds = x.holds }

abbrev pub put_entry : {R : Data → Value → Type 0} → ReadMember R → List (ReadMember R)
    → List (ReadMember R)
put_entry x [] = x ∷ []
put_entry x (e ∷ es) =
    match_ordering (bytes_cmp x.name e.name) (x ∷ e ∷ es) (renamed e.name x ∷ es)
    (e ∷ put_entry x es)

pub data_of-put_entry : {R : Data → Value → Type 0} (x : ReadMember R) (es : List (ReadMember R))
    → data_of (put_entry x es) ≡ put x.name x.reading (data_of es)
data_of-put_entry x [] = refl
data_of-put_entry x (e ∷ es) =
    through data_of (bytes_cmp x.name e.name) _ _ _ ∙ rw (data_of-put_entry x es)

pub pairs-put_entry : {R : Data → Value → Type 0} (x : ReadMember R) (es : List (ReadMember R))
    → map pair (put_entry x es) ≡ insert_entry bytes_cmp (map pair es) x.name x.value
pairs-put_entry x [] = refl
pairs-put_entry x (e ∷ es) =
    through (map pair) (bytes_cmp x.name e.name) _ _ _ ∙ rw (pairs-put_entry x es)

-- ---- what was read

abbrev HasData : json.Json → Value → Type 0
HasData j v = (d : Data) × (of_json j ≡ Some d) × (value_of_data d ≡ Some v)

abbrev HaveData : json.Items → Items → Type 0
HaveData js vs = (ds : parsed.Items) × (of_items js ≡ Some ds) × (items_of_data ds ≡ Some vs)

mutual
  has-data : (j : json.Json) (v : Value) → value_of_json whole_number j ≡ Some v → HasData j v
  has-data json.null v is = (parsed.null, refl, is)
  has-data (json.boolean b) v is = (parsed.boolean b, refl, is)
  has-data (json.number s) v is =
      let n = some_from_then (λ n. value_of_data (parsed.number n)) (number_of s) v is in
      (parsed.number n.0, ap (option_map parsed.number) n.1, n.2)
  has-data (json.string s) v is = (parsed.string s, refl, is)
  has-data (json.array js) v is =
      let vs = some_from_map list (items_of_json whole_number js) v is in
      let ds = have-data js vs.0 vs.1 in (
        parsed.array ds.0,
        ap (option_map parsed.array) ds.1,
        ap (option_map list) ds.2 ∙ ap Some vs.2,
      )
  has-data (json.object ms) v is =
      let found = some_from_map (λ found. object (members_of found))
      (members_of_json whole_number ms []) v is in
      let es = members-data ms [] found.0 found.1 in (
        parsed.object (data_of es.0),
        ap (option_map parsed.object) es.1,
        ap (option_map object) (members_of_data-entries es.0)
            ∙ ap (λ ms. Some (object (members_of ms))) (sym es.2) ∙ ap Some found.2,
      )

  have-data : (js : json.Items) (vs : Items) → items_of_json whole_number js ≡ Some vs → HaveData js vs
  have-data json.no_items vs is = (parsed.no_items, refl, is)
  have-data (json.item j js) vs is =
      let parts = some_from_both item (value_of_json whole_number j) (items_of_json whole_number js)
      vs is in
      let d = has-data j parts.0 parts.2 in
      let ds = have-data js parts.1 parts.3 in (
        parsed.item d.0 ds.0,
        ap (option_and_then (λ e. option_map (parsed.item e) (of_items js))) d.1
            ∙ ap (option_map (parsed.item d.0)) ds.1,
        ap (option_and_then (λ w. option_map (item w) (items_of_data ds.0))) d.2
            ∙ ap (option_map (item parts.0)) ds.2 ∙ ap Some parts.4,
      )

  members-data : (js : json.Members) (es : List (ReadMember Holds)) (ms : List (List ℕ × Value))
      → members_of_json whole_number js (map pair es) ≡ Some ms
      → (fs : List (ReadMember Holds)) × (of_members js (data_of es) ≡ Some (data_of fs)) × (ms ≡ map pair fs)
  members-data json.no_members es ms is = (es, refl, sym (same_Some (map pair es) ms is))
  members-data (json.member k j js) es ms is =
      let v = some_from_then
      (λ v. members_of_json whole_number js (insert_entry bytes_cmp (map pair es) k v))
      (value_of_json whole_number j) ms is in
      let d = has-data j v.0 v.1 in
      let e : ReadMember Holds = record { name = k; reading = d.0; value = v.0; holds = d.2 } in
      let fs = members-data js (put_entry e es) ms
      (ap (members_of_json whole_number js) (pairs-put_entry e es) ∙ v.2) in (
        fs.0,
        ap (option_and_then (λ c. of_members js (put k c (data_of es)))) d.1
            ∙ ap (of_members js) (sym (data_of-put_entry e es)) ∙ fs.1,
        fs.2,
      )

-- `serde_json` reads the text, and its reading holds the value
pub data_from_json : (s : List ℕ) (v : Value) → ReadsText whole_number s v
    → (d : Data) × (read s ≡ Some d) × (value_of_data d ≡ Some v)
data_from_json s v x =
    let d = has-data x.parsed v x.holds in
    (d.0, ap (option_and_then of_json) x.read ∙ d.1, d.2)
