-- What `serde_json` reads from a text has numbers in range, texts, and names that rise: for what a
-- document promises of its value.
use Rattle.std.specs.Prelude.{slice_index}
use Rattle.std.proofs.Common.{◌≡◌, ℕ, pos, zero, suc, ◌<◌, ◌≤◌, ◌^◌, Bool, true}
use Rattle.std.proofs.Common.{false, ◌&&◌, ◌==◌, nat_le, nat_lt, if◌then◌else◌, List}
use Rattle.std.proofs.Common.{[], ◌∷◌, drop, Option, Some, None, option_and_then}
use Rattle.std.proofs.Common.{option_map, refl, sym, ap, ◌∙◌, arith, ltb-true, lt-ltb}
use Rattle.std.specs.BTreeMap.{insert_entry}
use Rattle.std.specs.List.{list_all}
use Rattle.std.specs.Map.{keys_of}
use Rattle.std.specs.Str.{is_utf8}
use Rattle.std.proofs.lemmas.Bool.{and_from, and_parts, leb-true}
use Rattle.std.proofs.lemmas.Option.{none-some, same_Some}
use Rattle.fast_float.specs.Text.{Parts, digits_of, minus, scan, with_sign}
use Rattle.json.specs.Json as json
use Rattle.json.specs.Json.{Json}
use Rattle.serde_json.specs.Data as parsed
use Rattle.serde_json.specs.Data.{Data, Num, float, negative, put, unsigned}
use Rattle.serde_json.specs.Read.{float_of, is_integer, number_from}
use Rattle.serde_json.specs.Read.{number_of, of_items, of_json, of_members}
use Rattle.jp_document.specs.Document.{IsReading}
use Rattle.jp_decimal.specs.Number.{is_in_64_bits}
use Rattle.jp_document.specs.Value.{names_fit}
use Rattle.jp_document.proofs.Members.ByName.{bytes_cmp}
use Rattle.jp_reading.proofs.Conjunctions.{and-left, and-right}
use Rattle.jp_document.proofs.Utf8.Parsed.{items_texts, json_texts, members_texts}
use Rattle.jp_document.proofs.Utf8.Parsed.{text_of_texts}
use Rattle.jp_document.proofs.Members.Inserting.{insert_all, keys_by, keys_rise, through}
use Rattle.jp_document.proofs.Options.{some_from_then}

-- ---- what may be read

abbrev pub members_read : parsed.Members → List (List ℕ × Data)
members_read parsed.no_members = []
members_read (parsed.member n d ms) = (n, d) ∷ members_read ms

abbrev number_fits : Num → Bool
number_fits (unsigned n) = is_in_64_bits (pos n)
number_fits (negative z) = is_in_64_bits z
number_fits (float x) = true

abbrev mutual
  pub data_fits : Data → Bool
  data_fits parsed.null = true
  data_fits (parsed.boolean b) = true
  data_fits (parsed.number n) = number_fits n
  data_fits (parsed.string s) = is_utf8 s
  data_fits (parsed.array ds) = items_fit ds
  data_fits (parsed.object ms) = names_fit (keys_of (members_read ms)) && members_fit ms

  pub items_fit : parsed.Items → Bool
  items_fit parsed.no_items = true
  items_fit (parsed.item d ds) = data_fits d && items_fit ds

  pub members_fit : parsed.Members → Bool
  members_fit parsed.no_members = true
  members_fit (parsed.member n d ms) = data_fits d && members_fit ms

-- what was read fits
record EachFits {A : Type 0} (fits : A → Bool) (o : Option A) : Type 0 where
  pub each : (a : A) → o ≡ Some a → fits a ≡ true

fits_none : {A : Type 0} (fits : A → Bool) → EachFits fits None
fits_none fits = record { each = λ a is. absurd (none-some a is) }

fits_some : {A : Type 0} (fits : A → Bool) (a : A) → fits a ≡ true → EachFits fits (Some a)
fits_some fits a here = record { each = λ b is. ap fits (sym (same_Some a b is)) ∙ here }

fits_if : {A : Type 0} (fits : A → Bool) (t : Bool) (a : A) (o : Option A)
    → (t ≡ true → fits a ≡ true) → EachFits fits o → EachFits fits (if t then Some a else o)
fits_if fits true a o here later = fits_some fits a (here refl)
fits_if fits false a o here later = later

fits_map : {A B : Type 0} (fits : A → Bool) (more : B → Bool) (f : A → B) (o : Option A)
    → ((a : A) → fits a ≡ true → more (f a) ≡ true) → EachFits fits o → EachFits more (option_map f o)
fits_map fits more f None grows is = fits_none more
fits_map fits more f (Some a) grows is = fits_some more (f a) (grows a (is.each a refl))

fits_then : {A B : Type 0} (fits : A → Bool) (more : B → Bool) (o : Option A) (k : A → Option B)
    → ((a : A) → fits a ≡ true → EachFits more (k a)) → EachFits fits o
    → EachFits more (option_and_then k o)
fits_then fits more None k next is = fits_none more
fits_then fits more (Some a) k next is = next a (is.each a refl)

-- ---- numbers

float_fits : (sign : Bool) (p : Parts) → EachFits number_fits (float_of sign p)
float_fits sign p = fits_if number_fits _ _ None (λ finite. refl) (fits_none number_fits)

below_zero_fits : (n : ℕ) → 0 < n → n ≤ 2 ^ 63 → is_in_64_bits (with_sign true n) ≡ true
below_zero_fits zero some few = absurd (omega arith)
below_zero_fits (suc n) some few = lt-ltb n (2 ^ 63) (omega arith)

from_fits : (sign : Bool) (p : Parts) → EachFits number_fits (number_from sign p)
from_fits false p =
    fits_if number_fits (is_integer p && nat_lt (digits_of p) (2 ^ 64)) (unsigned (digits_of p))
    (float_of false p)
    (λ is. (and_parts (is_integer p) (nat_lt (digits_of p) (2 ^ 64)) is).1) (float_fits false p)
from_fits true p =
    fits_if number_fits (is_integer p && nat_lt 0 (digits_of p) && nat_le (digits_of p) (2 ^ 63))
    (negative (with_sign true (digits_of p))) (float_of true p)
    (λ is.
    let parts =
    and_parts (is_integer p && nat_lt 0 (digits_of p)) (nat_le (digits_of p) (2 ^ 63)) is in
    let some = and_parts (is_integer p) (nat_lt 0 (digits_of p)) parts.0 in
    below_zero_fits (digits_of p) (ltb-true 0 (digits_of p) some.1)
    (leb-true (digits_of p) (2 ^ 63) parts.1))
    (float_fits true p)

either_fits : (b : Bool) (o p : Option Num) → EachFits number_fits o → EachFits number_fits p
    → EachFits number_fits (if b then o else p)
either_fits true o p one two = one
either_fits false o p one two = two

number_of_fits : (s : List ℕ) → EachFits number_fits (number_of s)
unfolding number_of
number_of_fits s =
    either_fits (slice_index s 0 == minus) (number_from true (scan (drop 1 s)))
    (number_from false (scan s)) (from_fits true (scan (drop 1 s))) (from_fits false (scan s))

pub number-fits : (s : List ℕ) (n : Num) → number_of s ≡ Some n → number_fits n ≡ true
number-fits s n is = (number_of_fits s).each n is

-- ---- members

entries-put : (n : List ℕ) (d : Data) (ms : parsed.Members)
    → members_read (put n d ms) ≡ insert_entry bytes_cmp (members_read ms) n d
entries-put n d parsed.no_members = refl
entries-put n d (parsed.member m e ms) =
    through members_read (bytes_cmp n m) _ _ _ ∙ rw (entries-put n d ms)

members_fit-entries : (ms : parsed.Members)
    → members_fit ms ≡ list_all (λ e. data_fits e.1) (members_read ms)
members_fit-entries parsed.no_members = refl
members_fit-entries (parsed.member n d ms) = ap (λ b. data_fits d && b) (members_fit-entries ms)

put_fits : (n : List ℕ) (d : Data) (ms : parsed.Members) → is_utf8 n ≡ true → data_fits d ≡ true
    → data_fits (parsed.object ms) ≡ true → data_fits (parsed.object (put n d ms)) ≡ true
put_fits n d ms name here before =
    let es = members_read ms in
    let names = and-left _ _ before in
    let same = entries-put n d ms in
    and_from _ _
    (ap (λ xs. names_fit (keys_of xs)) same
    ∙ and_from _ _ (keys_rise es n d (and-left _ _ names))
    (keys_by is_utf8 es n d (and-right _ _ names) name))
    (members_fit-entries (put n d ms) ∙ ap (list_all (λ e. data_fits e.1)) same
    ∙ insert_all data_fits es n d (sym (members_fit-entries ms) ∙ and-right _ _ before) here)

-- ---- values

mutual
  json_fits : (j : Json) → json_texts j ≡ true → EachFits data_fits (of_json j)
  json_fits json.null texts = fits_some data_fits parsed.null refl
  json_fits (json.boolean b) texts = fits_some data_fits (parsed.boolean b) refl
  json_fits (json.number s) texts =
      fits_map number_fits data_fits parsed.number (number_of s) (λ n is. is) (number_of_fits s)
  json_fits (json.string s) texts = fits_some data_fits (parsed.string s) texts
  json_fits (json.array js) texts =
      fits_map items_fit data_fits parsed.array (of_items js) (λ ds is. is)
      (json_items_fit js texts)
  json_fits (json.object ms) texts =
      fits_map (λ found. data_fits (parsed.object found)) data_fits parsed.object
      (of_members ms parsed.no_members) (λ found is. is)
      (json_members_fit ms parsed.no_members texts refl)

  json_items_fit : (js : json.Items) → items_texts js ≡ true → EachFits items_fit (of_items js)
  json_items_fit json.no_items texts = fits_some items_fit parsed.no_items refl
  json_items_fit (json.item j js) texts =
      fits_then data_fits items_fit (of_json j) (λ d. option_map (parsed.item d) (of_items js))
      (λ d here. fits_map items_fit items_fit (parsed.item d) (of_items js)
      (λ ds there. and_from _ _ here there) (json_items_fit js (and-right _ _ texts)))
      (json_fits j (and-left _ _ texts))

  json_members_fit : (ms : json.Members) (found : parsed.Members) → members_texts ms ≡ true
      → data_fits (parsed.object found) ≡ true
      → EachFits (λ found. data_fits (parsed.object found)) (of_members ms found)
  json_members_fit json.no_members found texts before =
      fits_some (λ found. data_fits (parsed.object found)) found before
  json_members_fit (json.member n j ms) found texts before =
      fits_then data_fits (λ found. data_fits (parsed.object found)) (of_json j)
      (λ d. of_members ms (put n d found))
      (λ d here. json_members_fit ms (put n d found) (and-right _ _ (and-right _ _ texts))
      (put_fits n d found (and-left _ _ texts) here before))
      (json_fits j (and-left _ _ (and-right _ _ texts)))

-- the reading of bytes fits
pub reading_fits : (bytes : List ℕ) (d : Data) → IsReading bytes d → data_fits d ≡ true
reading_fits bytes d reads =
    let j = some_from_then of_json _ d reads.reading in
    (json_fits j.0 (text_of_texts bytes j.0 reads.utf8 j.1)).each d j.2
