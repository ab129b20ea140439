-- A document of whole numbers is an exact one with the same value, and an exact one whose numbers are
-- whole is such a document.
use Rattle.std.proofs.Common.{◌≡◌, ℕ, true, List, [], ◌∷◌, map, Option, Some, None, refl, sym, ap, ◌∙◌}
use Rattle.std.proofs.Common.{is_some, option_map, option_and_then}
use Rattle.std.specs.BTreeMap.{insert_entry}
use Rattle.std.proofs.lemmas.Option.{same_Some}
use Rattle.json.specs.Json as json
use Rattle.serde_json.specs.Data as parsed
use Rattle.serde_json.specs.Data.{Data, put}
use Rattle.serde_json.specs.Read.{number_of, of_items, of_json, of_members}
use Rattle.jp_document.specs.Document.{items_of_data, members_of_data, value_of_data}
use Rattle.jp_document.specs.Value.{Items, Members, Value, boolean, item, list, member, members_of}
use Rattle.jp_document.specs.Value.{no_items, no_members, null, object, text, decimal}
use Rattle.jp_document.specs.Value.{is_allowed}
use Rattle.jp_document.proofs.Members.ByName.{bytes_cmp}
use Rattle.jp_document.proofs.Options.{some_from_both, some_from_map, some_from_then}
use Rattle.jp_document.proofs.Descent.Inside.{everywhere-weaker}
use Rattle.jp_reading.proofs.Conjunctions.{and-left, and-right}
use Rattle.jp_document.specs.Exact.{DocumentIsExact, WholeIsDocument, has_whole_numbers}
use Rattle.jp_document.specs.Exact.{have_whole_numbers, hold_whole_numbers}
use Rattle.jp_document.specs.NumberTexts.{exact_number, whole_number}
use Rattle.jp_flat.specs.Private.Bounded.{is_bounded}
use Rattle.jp_flat.proofs.Numbers.{whole-kept}
use Rattle.jp_decimal.specs.TextValue.{value_of_text}
use Rattle.jp_document.specs.NumberValue.{number_value}
use Rattle.jp_document.specs.OfJson.{items_of_json, json_in, members_of_json, value_of_json}
use Rattle.jp_flat.proofs.Ahead.{document_from_text}
use Rattle.jp_flat.proofs.AsData.{ReadMember, data_of, data_of-put_entry, pair, pairs-put_entry}
use Rattle.jp_flat.proofs.AsData.{put_entry}

-- ---- a document of whole numbers is an exact one

-- the value is that of the reading, if this has one
abbrev Agrees : Data → Value → Type 0
Agrees d w = (v : Value) → value_of_data d ≡ Some v → w ≡ v

abbrev HasExact : json.Json → Data → Type 0
HasExact j d = (w : Value) × (value_of_json exact_number j ≡ Some w) × Agrees d w

-- each number has a value, which is the whole number where it is one
total : (s : List ℕ)
    → (w : Value) × (exact_number s ≡ Some w) × ((v : Value) → whole_number s ≡ Some v → w ≡ v)
total s = (number_value (value_of_text s), refl, whole-kept s)

agree-members : (es : List (ReadMember Agrees)) (ms : Members)
    → members_of_data (data_of es) ≡ Some ms → members_of (map pair es) ≡ ms
agree-members [] ms is = same_Some no_members ms is
agree-members (e ∷ es) ms is =
    let parts = some_from_both (member e.name) (value_of_data e.reading)
    (members_of_data (data_of es)) ms is in
    ap (λ v. member e.name v (members_of (map pair es))) (e.holds parts.0 parts.2)
    ∙ ap (member e.name parts.0) (agree-members es parts.1 parts.3) ∙ parts.4

-- the value of what is read as that at once
at-once : (j : json.Json) (e d : Data) (w : Value) → of_json j ≡ Some d → e ≡ d
    → value_of_json exact_number j ≡ Some w → value_of_data e ≡ Some w → HasExact j d
at-once j e d w is same here there =
    (w, here, λ v of. same_Some w v (sym there ∙ ap value_of_data same ∙ of))

mutual
  has-exact : (j : json.Json) (d : Data) → of_json j ≡ Some d → HasExact j d
  has-exact json.null d is =
      at-once json.null parsed.null d null is (same_Some parsed.null d is) refl refl
  has-exact (json.boolean b) d is =
      at-once (json.boolean b) (parsed.boolean b) d (boolean b) is
      (same_Some (parsed.boolean b) d is) refl refl
  has-exact (json.string s) d is =
      at-once (json.string s) (parsed.string s) d (text s) is (same_Some (parsed.string s) d is)
      refl refl
  has-exact (json.number s) d is =
      let n = some_from_map parsed.number (number_of s) d is in
      let t = total s in (
        t.0,
        t.1,
        λ v of. t.2 v
            (ap (option_and_then (λ n. value_of_data (parsed.number n))) n.1
            ∙ ap value_of_data n.2 ∙ of),
      )
  has-exact (json.array js) d is =
      let ds = some_from_map parsed.array (of_items js) d is in
      let ws = have-exact js ds.0 ds.1 in (
        list ws.0,
        ap (option_map list) ws.1,
        λ v of.
            let vs = some_from_map list (items_of_data ds.0) v (ap value_of_data ds.2 ∙ of) in
            ap list (ws.2 vs.0 vs.1) ∙ vs.2,
      )
  has-exact (json.object ms) d is =
      let ds = some_from_map parsed.object (of_members ms parsed.no_members) d is in
      let es = hold-exact ms [] ds.0 ds.1 in (
        object (members_of (map pair es.0)),
        ap (option_map (λ found. object (members_of found))) es.1,
        λ v of.
            let vs = some_from_map object (members_of_data ds.0) v (ap value_of_data ds.2 ∙ of) in
            ap object (agree-members es.0 vs.0 (ap members_of_data es.2 ∙ vs.1)) ∙ vs.2,
      )

  have-exact : (js : json.Items) (ds : parsed.Items) → of_items js ≡ Some ds
      → (ws : Items) × (items_of_json exact_number js ≡ Some ws)
      × ((vs : Items) → items_of_data ds ≡ Some vs → ws ≡ vs)
  have-exact json.no_items ds is = (
    no_items,
    refl,
    λ vs of. same_Some no_items vs (ap items_of_data (same_Some parsed.no_items ds is) ∙ of),
  )
  have-exact (json.item j js) ds is =
      let parts = some_from_both parsed.item (of_json j) (of_items js) ds is in
      let w = has-exact j parts.0 parts.2 in
      let ws = have-exact js parts.1 parts.3 in (
        item w.0 ws.0,
        ap (option_and_then (λ v. option_map (item v) (items_of_json exact_number js))) w.1
            ∙ ap (option_map (item w.0)) ws.1,
        λ vs of.
            let both = some_from_both item (value_of_data parts.0) (items_of_data parts.1) vs
            (ap items_of_data parts.4 ∙ of) in
            ap (λ v. item v ws.0) (w.2 both.0 both.2)
            ∙ ap (item both.0) (ws.2 both.1 both.3) ∙ both.4,
      )

  hold-exact : (js : json.Members) (es : List (ReadMember Agrees)) (ds : parsed.Members)
      → of_members js (data_of es) ≡ Some ds
      → (fs : List (ReadMember Agrees))
      × (members_of_json exact_number js (map pair es) ≡ Some (map pair fs)) × (data_of fs ≡ ds)
  hold-exact json.no_members es ds is = (es, refl, same_Some (data_of es) ds is)
  hold-exact (json.member k j js) es ds is =
      let c = some_from_then (λ c. of_members js (put k c (data_of es))) (of_json j) ds is in
      let w = has-exact j c.0 c.1 in
      let e : ReadMember Agrees =
      record { name = k; reading = c.0; value = w.0; holds = w.2 } in
      let fs = hold-exact js (put_entry e es) ds
      (ap (of_members js) (data_of-put_entry e es) ∙ c.2) in (
        fs.0,
        ap
            (option_and_then
            (λ v. members_of_json exact_number js (insert_entry bytes_cmp (map pair es) k v))) w.1
            ∙ ap (members_of_json exact_number js) (sym (pairs-put_entry e es)) ∙ fs.1,
        fs.2,
      )

pub document-is-exact : DocumentIsExact
document-is-exact bytes v x =
    let j = some_from_then of_json (json_in bytes) x.reading x.reads.reading in
    let w = has-exact j.0 x.reading j.2 in
    record {
      utf8 = x.reads.utf8;
      parsed = j.0;
      reads = j.1;
      holds = w.1 ∙ ap Some (w.2 v x.holds);
      valid = x.valid;
    }

-- ---- an exact document of whole numbers is a document

same-number : (s : List ℕ) (o : Option Value) → whole_number s ≡ o → is_some o ≡ true
    → whole_number s ≡ exact_number s
same-number s None is some = absurd (cc)
same-number s (Some v) is some = is ∙ ap Some (sym (whole-kept s v is))

then-same : {A B : Type 0} (f g : A → Option B) (o : Option A) → ((a : A) → f a ≡ g a)
    → option_and_then f o ≡ option_and_then g o
then-same f g None same = refl
then-same f g (Some a) same = same a

mutual
  same-value : (j : json.Json) → has_whole_numbers j ≡ true
      → value_of_json whole_number j ≡ value_of_json exact_number j
  same-value json.null whole = refl
  same-value (json.boolean b) whole = refl
  same-value (json.string s) whole = refl
  same-value (json.number s) whole = same-number s (whole_number s) refl whole
  same-value (json.array js) whole = ap (option_map list) (same-items js whole)
  same-value (json.object ms) whole =
      ap (option_map (λ found. object (members_of found))) (same-members ms [] whole)

  same-items : (js : json.Items) → have_whole_numbers js ≡ true
      → items_of_json whole_number js ≡ items_of_json exact_number js
  same-items json.no_items whole = refl
  same-items (json.item j js) whole =
      ap (option_and_then (λ v. option_map (item v) (items_of_json whole_number js)))
      (same-value j (and-left _ _ whole))
      ∙ ap (λ o. option_and_then (λ v. option_map (item v) o) (value_of_json exact_number j))
      (same-items js (and-right _ _ whole))

  same-members : (js : json.Members) (found : List (List ℕ × Value)) → hold_whole_numbers js ≡ true
      → members_of_json whole_number js found ≡ members_of_json exact_number js found
  same-members json.no_members found whole = refl
  same-members (json.member k j js) found whole =
      ap (option_and_then (λ v. members_of_json whole_number js (insert_entry bytes_cmp found k v)))
      (same-value j (and-left _ _ whole))
      ∙ then-same (λ v. members_of_json whole_number js (insert_entry bytes_cmp found k v))
      (λ v. members_of_json exact_number js (insert_entry bytes_cmp found k v))
      (value_of_json exact_number j)
      (λ v. same-members js (insert_entry bytes_cmp found k v) (and-right _ _ whole))

allowed-bounded : (v : Value) → is_allowed v ≡ true → is_bounded v ≡ true
allowed-bounded (list vs) allowed = allowed
allowed-bounded (decimal c e) allowed = allowed
allowed-bounded v allowed = refl

pub whole-is-document : WholeIsDocument
whole-is-document bytes v x whole =
    document_from_text bytes v x.utf8
    (record { parsed = x.parsed; read = x.reads; holds = same-value x.parsed whole ∙ x.holds })
    (everywhere-weaker is_allowed is_bounded allowed-bounded v x.valid)
