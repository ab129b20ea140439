-- What tokens are read as, a token, an item and a member at a time: for `lone_value`.
use Rattle.std.specs.Prelude.{slice_index}
use Rattle.std.proofs.Common.{◌≡◌, ◌==◌, ℕ, ℤ, pos, true, false, drop, ◌-◌}
use Rattle.std.proofs.Common.{◌<◌, ◌≤◌, List, [], ◌∷◌, length, Option, Some}
use Rattle.std.proofs.Common.{None, option_map, option_and_then, refl, ap, ◌∙◌}
use Rattle.std.specs.BTreeMap.{insert_entry}
use Rattle.std.proofs.lemmas.Option.{some_pair_parts}
use Rattle.json.specs.Lex.{tokens}
use Rattle.json.specs.Token.{Token}
use Rattle.json.specs.Json as json
use Rattle.json.specs.Json.{parse_map, after_end_array, read_key, members, value, if_last}
use Rattle.json.proofs.Grammar.{items_end, items_more, members_end, members_more}
use Rattle.fast_float.specs.Text.{minus, scan}
use Rattle.serde_json.specs.Data.{number as number_data, unsigned, negative}
use Rattle.serde_json.specs.Read.{number_of, number_from}
use Rattle.jp_document.specs.Document.{value_of_data}
use Rattle.jp_document.specs.OfJson.{most_levels}
use Rattle.jp_document.specs.OfJson.{items_of_json, members_of_json, value_of_json}
use Rattle.jp_flat.specs.Private.Integer.{IsWholeText}
use Rattle.jp_flat.specs.Private.FromTokens.{ReadsItems, ReadsText, ReadsValue, converted}
use Rattle.jp_document.specs.Value.{Value, whole, Items, no_items, item}
use Rattle.jp_document.proofs.Members.ByName.{bytes_cmp}

parts-same : {B : Type 0} (r s : List Token) (x : Option B) (b : B)
    → option_map {U = B × List Token} (λ y. (y, r)) x ≡ Some (b, s) → (r ≡ s) × (x ≡ Some b)
parts-same r s None b e = absurd (cc)
parts-same r s (Some y) b e =
    let same = some_pair_parts y b r s e in (same.1, ap Some same.0)

-- what was parsed before it was converted
pub parsed_before : {A B : Type 0} (f : A → Option B) (o : Option (A × List Token)) (b : B)
    (r : List Token) → converted f o ≡ Some (b, r) → (a : A) × (o ≡ Some (a, r)) × (f a ≡ Some b)
parsed_before f None b r e = absurd (cc)
parsed_before f (Some p) b r e =
    let both = parts-same p.1 r (f p.0) b e in (p.0, ap (λ s. Some (p.0, s)) both.0, both.1)

-- ---- a value of one token

pub one_token : {N : List ℕ → Option Value} (depth : ℕ) (ts r : List Token) (t : Token) (v : Value)
    → ts ≡ t ∷ r → converted (value_of_json N) (value depth (t ∷ r)) ≡ Some (v, r)
    → ReadsValue N depth ts r v
one_token {N = N} depth ts r t v first is =
    record { read = ap (λ s. converted (value_of_json N) (value depth s)) first ∙ is }

-- ---- what is made of parts

twice : {A B : Type 0} (g : A → B) (r : List Token) (x : Option A)
    → option_map (λ b. (b, r)) (option_map g x) ≡ parse_map g (option_map (λ a. (a, r)) x)
twice g r None = refl
twice g r (Some a) = refl

-- a part that is read with its parts
pub converted-map : {A B C D : Type 0} (f : A → Option B) (g : C → Option D) (h : A → C) (k : B → D)
    → ((a : A) → g (h a) ≡ option_map k (f a)) → (o : Option (A × List Token))
    → converted g (parse_map h o) ≡ parse_map k (converted f o)
converted-map f g h k same None = refl
converted-map {D = D} f g h k same (Some p) =
    ap (option_map {U = D × List Token} (λ d. (d, p.1))) (same p.0) ∙ twice k p.1 (f p.0)

-- ---- the whole text

abbrev last_of : Option (json.Json × List Token) → Option json.Json
last_of o = option_and_then (λ p. if_last p.0 p.1) o

pub reads-all : {N : List ℕ → Option Value} (s : List ℕ) (v : Value)
    → ReadsValue N most_levels (tokens s) [] v → ReadsText N s v
reads-all {N = N} s v x =
    let j = parsed_before (value_of_json N) (value most_levels (tokens s)) v [] x.read in
    record { parsed = j.0; read = ap last_of j.1; holds = j.2 }

-- ---- one item more

pub items_round : {N : List ℕ → Option Value} (depth n : ℕ) (ts r s : List Token) (v : Value)
    (vs : Items) → 0 < n → after_end_array ts ≡ None → ReadsValue N depth ts r v
    → ReadsItems N depth (n - 1) r s vs → ReadsItems N depth n ts s (item v vs)
items_round {N = N} depth n ts r s v vs some going x later = record {
  read =
      let j = parsed_before (value_of_json N) (value depth ts) v r x.read in
      ap (converted (items_of_json N)) (items_more (value depth) n ts r j.0 some going j.1)
      ∙ converted-map (items_of_json N) (items_of_json N) (json.item j.0) (item v)
      (λ js. ap (option_and_then (λ w. option_map (item w) (items_of_json N js))) j.2) _
      ∙ ap (parse_map (item v)) later.read;
}

pub items_over : {N : List ℕ → Option Value} (depth n : ℕ) (ts r : List Token) → length ts ≤ n
    → after_end_array ts ≡ Some r → ReadsItems N depth n ts r no_items
items_over {N = N} depth n ts r enough e =
    record { read = ap (converted (items_of_json N)) (items_end (value depth) n ts r enough e) }

-- ---- one member more, beside those that were read

with_member : (N : List ℕ → Option Value) (k : List ℕ) (j : json.Json) (v : Value)
    (found : List (List ℕ × Value)) → value_of_json N j ≡ Some v
    → (o : Option (json.Members × List Token))
    → converted (λ ms. members_of_json N ms found) (parse_map (json.member k j) o) ≡
    converted (λ ms. members_of_json N ms (insert_entry bytes_cmp found k v)) o
with_member N k j v found e None = refl
with_member N k j v found e (Some p) = rw e

pub member_round : {N : List ℕ → Option Value} (depth n : ℕ) (found : List (List ℕ × Value))
    (k : List ℕ) (ts s r : List Token) (v : Value) → ReadsValue N depth s r v → 0 < n
    → read_key ts ≡ Some (Some k, s)
    → converted (λ ms. members_of_json N ms found) (members (value depth) n ts) ≡
    converted (λ ms. members_of_json N ms (insert_entry bytes_cmp found k v))
    (members (value depth) (n - 1) r)
member_round {N = N} depth n found k ts s r v x some key =
    let j = parsed_before (value_of_json N) (value depth s) v r x.read in
    ap (converted (λ ms. members_of_json N ms found))
    (members_more (value depth) n k ts s r j.0 some key j.1)
    ∙ with_member N k j.0 v found j.2 _

pub members_over : (N : List ℕ → Option Value) (depth n : ℕ) (found : List (List ℕ × Value))
    (ts r : List Token) → length ts ≤ n → read_key ts ≡ Some (None, r)
    → converted (λ ms. members_of_json N ms found) (members (value depth) n ts) ≡ Some (found, r)
members_over N depth n found ts r enough e =
    ap (converted (λ ms. members_of_json N ms found)) (members_end (value depth) n ts r enough e)

-- ---- whole numbers

pub from_zero_text : (s : List ℕ) (n : ℕ) (z : ℤ) → (slice_index s 0 == minus) ≡ false
    → number_from false (scan s) ≡ Some (unsigned n) → pos n ≡ z → IsWholeText s z
unfolding number_of
from_zero_text s n z first x same =
    let read : number_of s ≡ Some (unsigned n) = rw first x in
    record {
      is =
          ap (option_and_then (λ m. value_of_data (number_data m))) read
          ∙ ap (λ z. Some (whole z)) same;
    }

pub below_zero_text : (s : List ℕ) (y z : ℤ) → (slice_index s 0 == minus) ≡ true
    → number_from true (scan (drop 1 s)) ≡ Some (negative y) → y ≡ z → IsWholeText s z
unfolding number_of
below_zero_text s y z first x same =
    let read : number_of s ≡ Some (negative y) = rw first x in
    record {
      is =
          ap (option_and_then (λ m. value_of_data (number_data m))) read
          ∙ ap (λ z. Some (whole z)) same;
    }
