-- What is read of a text may be a document's value, where its lists fit: for `Room::read_exact`.
use Rattle.std.proofs.Common.{◌≡◌, ℕ, Bool, true, false, List, [], Option, Some, refl, sym, ap, subst}
use Rattle.std.proofs.Common.{◌∙◌, IsUtf8}
use Rattle.std.specs.BTreeMap.{insert_entry}
use Rattle.std.specs.List.{list_all}
use Rattle.std.specs.Map.{keys_of}
use Rattle.std.specs.Str.{is_utf8}
use Rattle.std.proofs.lemmas.Bool.{and_from}
use Rattle.std.proofs.lemmas.Option.{same_Some}
use Rattle.json.specs.Json as json
use Rattle.jp_decimal.specs.Number.{is_in_64_bits}
use Rattle.jp_decimal.specs.TextValue.{value_of_text}
use Rattle.jp_document.specs.NumberValue.{number_value}
use Rattle.jp_document.specs.Value.{Items, Members, Value, boolean, decimal, everywhere}
use Rattle.jp_document.specs.Value.{everywhere_in_items, everywhere_in_members, is_allowed, item, list}
use Rattle.jp_document.specs.Value.{member, members_of, names_fit, names_of, no_items}
use Rattle.jp_flat.specs.Private.Bounded.{is_bounded}
use Rattle.jp_document.specs.Value.{no_members, null, object, text, whole}
use Rattle.jp_document.proofs.Descent.Inside.{all-members}
use Rattle.jp_document.proofs.Members.ByName.{bytes_cmp, names_of-members_of}
use Rattle.jp_document.proofs.Members.Inserting.{insert_all, keys_by, keys_rise}
use Rattle.jp_document.proofs.NumberValues.{number-always}
use Rattle.jp_document.proofs.Options.{some_from_both, some_from_map, some_from_then}
use Rattle.jp_document.proofs.Utf8.Parsed.{items_texts, json_texts, members_texts, text_of_texts}
use Rattle.jp_reading.proofs.Conjunctions.{and-left, and-right}
use Rattle.jp_document.specs.Exact.{IsDocumentBy, IsExactDocument}
use Rattle.jp_document.specs.NumberTexts.{exact_number, numbers_of}
use Rattle.jp_document.specs.OfJson.{items_of_json, members_of_json, value_of_json}
use Rattle.jp_flat.specs.Private.FromTokens.{ReadsText}
use Rattle.jp_flat.proofs.Ahead.{document_from_text}

abbrev Pair : Type 0
Pair = List ℕ × Value

-- ---- all that a document asks of a value but the length of lists

abbrev fits : Value → Bool
fits null = true
fits (boolean b) = true
fits (whole z) = is_in_64_bits z
fits (decimal c e) = true
fits (text s) = is_utf8 s
fits (list vs) = true
fits (object ms) = names_fit (names_of ms)

mutual
  allowed-both : (v : Value) → everywhere fits v ≡ true → everywhere is_bounded v ≡ true
      → everywhere is_allowed v ≡ true
  allowed-both null fit short = refl
  allowed-both (boolean b) fit short = refl
  allowed-both (whole z) fit short = fit
  allowed-both (decimal c e) fit short = short
  allowed-both (text s) fit short = fit
  allowed-both (list vs) fit short =
      and_from _ _ (and-left _ _ short) (items-both vs fit (and-right _ _ short))
  allowed-both (object ms) fit short =
      and_from _ _ (and-left _ _ fit) (members-both ms (and-right _ _ fit) short)

  items-both : (vs : Items) → everywhere_in_items fits vs ≡ true
      → everywhere_in_items is_bounded vs ≡ true → everywhere_in_items is_allowed vs ≡ true
  items-both no_items fit short = refl
  items-both (item v vs) fit short =
      and_from _ _ (allowed-both v (and-left _ _ fit) (and-left _ _ short))
      (items-both vs (and-right _ _ fit) (and-right _ _ short))

  members-both : (ms : Members) → everywhere_in_members fits ms ≡ true
      → everywhere_in_members is_bounded ms ≡ true → everywhere_in_members is_allowed ms ≡ true
  members-both no_members fit short = refl
  members-both (member n v ms) fit short =
      and_from _ _ (allowed-both v (and-left _ _ fit) (and-left _ _ short))
      (members-both ms (and-right _ _ fit) (and-right _ _ short))

-- ---- numbers

exact-fits : (s : List ℕ) (v : Value) → exact_number s ≡ Some v → everywhere fits v ≡ true
exact-fits s v is =
    ap (everywhere fits) (sym (same_Some (number_value (value_of_text s)) v is))
    ∙ number-always (everywhere fits) (λ z fit. fit) (λ c e. refl) (value_of_text s)

-- ---- values

module _ (N : List ℕ → Option Value)
    (numbers : (s : List ℕ) (v : Value) → N s ≡ Some v → everywhere fits v ≡ true)
  where
    mutual
      json-fits : (j : json.Json) (v : Value) → json_texts j ≡ true → value_of_json N j ≡ Some v
          → everywhere fits v ≡ true
      json-fits json.null v texts is = ap (everywhere fits) (sym (same_Some null v is))
      json-fits (json.boolean b) v texts is =
          ap (everywhere fits) (sym (same_Some (boolean b) v is))
      json-fits (json.number s) v texts is = numbers s v is
      json-fits (json.string s) v texts is =
          ap (everywhere fits) (sym (same_Some (text s) v is)) ∙ texts
      json-fits (json.array js) v texts is =
          let vs = some_from_map list (items_of_json N js) v is in
          ap (everywhere fits) (sym vs.2) ∙ items-fit js vs.0 texts vs.1
      json-fits (json.object ms) v texts is =
          let found = some_from_map (λ found. object (members_of found)) (members_of_json N ms []) v is in
          let so = members-fit ms [] found.0 texts refl refl found.1 in
          ap (everywhere fits) (sym found.2)
          ∙ and_from _ _ (ap names_fit (names_of-members_of found.0) ∙ so.0)
          (all-members fits found.0 ∙ so.1)

      items-fit : (js : json.Items) (vs : Items) → items_texts js ≡ true
          → items_of_json N js ≡ Some vs → everywhere_in_items fits vs ≡ true
      items-fit json.no_items vs texts is =
          ap (everywhere_in_items fits) (sym (same_Some no_items vs is))
      items-fit (json.item j js) vs texts is =
          let parts = some_from_both item (value_of_json N j) (items_of_json N js) vs is in
          ap (everywhere_in_items fits) (sym parts.4)
          ∙ and_from _ _ (json-fits j parts.0 (and-left _ _ texts) parts.2)
          (items-fit js parts.1 (and-right _ _ texts) parts.3)

      members-fit : (ms : json.Members) (found fs : List Pair) → members_texts ms ≡ true
          → names_fit (keys_of found) ≡ true → list_all (λ e. everywhere fits e.1) found ≡ true
          → members_of_json N ms found ≡ Some fs
          → (names_fit (keys_of fs) ≡ true) × (list_all (λ e. everywhere fits e.1) fs ≡ true)
      members-fit json.no_members found fs texts names all is =
          let same = same_Some found fs is in (
            subst (λ xs. names_fit (keys_of xs) ≡ true) same names,
            subst (λ xs. list_all (λ e. everywhere fits e.1) xs ≡ true) same all,
          )
      members-fit (json.member k j ms) found fs texts names all is =
          let v = some_from_then (λ v. members_of_json N ms (insert_entry bytes_cmp found k v))
          (value_of_json N j) fs is in
          let later = and-right _ _ texts in
          members-fit ms (insert_entry bytes_cmp found k v.0) fs (and-right _ _ later)
          (and_from _ _ (keys_rise found k v.0 (and-left _ _ names))
          (keys_by is_utf8 found k v.0 (and-right _ _ names) (and-left _ _ texts)))
          (insert_all (everywhere fits) found k v.0 all (json-fits j v.0 (and-left _ _ later) v.1)) v.2

-- ---- documents

exact-document : (bytes : List ℕ) (v : Value) → IsUtf8 bytes → ReadsText exact_number bytes v
    → everywhere is_bounded v ≡ true → IsExactDocument bytes v
exact-document bytes v utf8 x short = record {
  utf8 = utf8;
  parsed = x.parsed;
  reads = x.read;
  holds = x.holds;
  valid =
      allowed-both v
      (json-fits exact_number exact-fits x.parsed v (text_of_texts bytes x.parsed utf8 x.read)
      x.holds) short;
}

pub document-by : (b : Bool) (bytes : List ℕ) (v : Value) → IsUtf8 bytes
    → ReadsText (numbers_of b) bytes v → everywhere is_bounded v ≡ true → IsDocumentBy b bytes v
document-by false bytes v utf8 x short = document_from_text bytes v utf8 x short
document-by true bytes v utf8 x short = exact-document bytes v utf8 x short

pub valid-by : (b : Bool) (bytes : List ℕ) (v : Value) → IsDocumentBy b bytes v
    → everywhere is_allowed v ≡ true
valid-by false bytes v x = x.valid
valid-by true bytes v x = x.valid
