-- What the first token of a value tells of it: for the values that are kept as they are.
use Rattle.std.proofs.Common.{Bool, true, false, ◌≡◌, ◌∷◌, ◌∙◌, [], ℕ, List, Option, Some, None, ap, refl, sym}
use Rattle.std.proofs.lemmas.Option.{same_Some}
use Rattle.json.specs.Json as json
use Rattle.json.specs.Json.{value}
use Rattle.json.specs.Token as spec
use Rattle.json.proofs.Grammar.{value_is}
use Rattle.serde_json.specs.Data as parsed
use Rattle.serde_json.specs.Read.{number_of}
use Rattle.jp_document.specs.Document.{value_of_data}
use Rattle.jp_document.specs.OfJson.{items_of_json, members_of_json, value_of_json}
use Rattle.jp_decimal.specs.TextValue.{value_of_text}
use Rattle.jp_document.specs.NumberValue.{number_value}
use Rattle.jp_document.specs.NumberTexts.{numbers_of, whole_number}
use Rattle.jp_document.proofs.NumberValues.{number-always}
use Rattle.jp_document.specs.Value.{Value, list, members_of, object}
use Rattle.jp_document.proofs.Options.{some_from_map, some_from_then}
use Rattle.jp_flat.specs.Private.FromTokens.{ReadsValue}
use Rattle.json.specs.Lex.{string_token}
use Rattle.jp_flat.specs.Private.Tokens.{said, token_of, key_token}
use Rattle.jp_flat.specs.declared.token.Token.{Token}
use Rattle.jp_flat.specs.declared.token.Token.TheVariants as code
use Rattle.jp_flat.proofs.Rounds.{parsed_before}

-- a list, an object, or another value
pub data Sort : Type 0 where
  a_list : Sort
  an_object : Sort
  other : Sort

abbrev pub sort_of : Value → Sort
sort_of (list vs) = a_list
sort_of (object ms) = an_object
sort_of _ = other

abbrev json_sort : json.Json → Sort
json_sort (json.array js) = a_list
json_sort (json.object ms) = an_object
json_sort _ = other

abbrev pub token_sort : spec.Token → Sort
token_sort spec.begin_array = a_list
token_sort spec.begin_object = an_object
token_sort _ = other

sort-number : (n : parsed.Num) (v : Value) → value_of_data (parsed.number n) ≡ Some v
    → sort_of v ≡ other
sort-number (parsed.unsigned n) v is = ap sort_of (sym (same_Some _ v is))
sort-number (parsed.negative z) v is = ap sort_of (sym (same_Some _ v is))
sort-number (parsed.float x) v is = absurd (cc)

-- a whole number is neither
sort-whole : (s : List ℕ) (v : Value) → whole_number s ≡ Some v → sort_of v ≡ other
sort-whole s v is =
    let n = some_from_then (λ n. value_of_data (parsed.number n)) (number_of s) v is in
    sort-number n.0 v n.2

pub sort-number_of : (b : Bool) (s : List ℕ) (v : Value) → numbers_of b s ≡ Some v
    → sort_of v ≡ other
sort-number_of false s v is = sort-whole s v is
sort-number_of true s v is =
    ap sort_of (sym (same_Some (number_value (value_of_text s)) v is))
    ∙ number-always sort_of (λ z fits. refl) (λ c e. refl) (value_of_text s)

-- Where numbers are neither.
module _ (N : List ℕ → Option Value) (leaves : (s : List ℕ) (v : Value) → N s ≡ Some v → sort_of v ≡ other)
  where
    sort-json : (j : json.Json) (v : Value) → value_of_json N j ≡ Some v → sort_of v ≡ json_sort j
    sort-json json.null v is = ap sort_of (sym (same_Some _ v is))
    sort-json (json.boolean b) v is = ap sort_of (sym (same_Some _ v is))
    sort-json (json.number s) v is = leaves s v is
    sort-json (json.string s) v is = ap sort_of (sym (same_Some _ v is))
    sort-json (json.array js) v is =
        let h = some_from_map list (items_of_json N js) v is in ap sort_of (sym h.2)
    sort-json (json.object ms) v is =
        let h = some_from_map (λ found. object (members_of found)) (members_of_json N ms []) v is in
        ap sort_of (sym h.2)

sort-parsed : (a : json.Parse json.Items) (o : json.Parse json.Members) (k : spec.Token)
    (ts rest : List spec.Token) (j : json.Json)
    → json.value_with a o (k ∷ ts) ≡ Some (j, rest) → json_sort j ≡ token_sort k
sort-parsed a o spec.begin_object ts rest j is =
    let h = some_from_map _ (o ts) (j, rest) is in ap (λ p. json_sort p.0) (sym h.2)
sort-parsed a o spec.end_object ts rest j is = absurd (cc)
sort-parsed a o spec.begin_array ts rest j is =
    let h = some_from_map _ (a ts) (j, rest) is in ap (λ p. json_sort p.0) (sym h.2)
sort-parsed a o spec.end_array ts rest j is = absurd (cc)
sort-parsed a o (spec.key s) ts rest j is = absurd (cc)
sort-parsed a o (spec.string s) ts rest j is =
    ap (λ p. json_sort p.0) (sym (same_Some (json.string s, ts) (j, rest) is))
sort-parsed a o (spec.number s) ts rest j is =
    ap (λ p. json_sort p.0) (sym (same_Some (json.number s, ts) (j, rest) is))
sort-parsed a o (spec.boolean b) ts rest j is =
    ap (λ p. json_sort p.0) (sym (same_Some (json.boolean b, ts) (j, rest) is))
sort-parsed a o spec.null ts rest j is =
    ap (λ p. json_sort p.0) (sym (same_Some (json.null, ts) (j, rest) is))
sort-parsed a o spec.bad ts rest j is = absurd (cc)

-- the first token tells the sort of the value
pub sort-read : (N : List ℕ → Option Value)
    → ((s : List ℕ) (v : Value) → N s ≡ Some v → sort_of v ≡ other) → (depth : ℕ) (k : spec.Token)
    (ts rest : List spec.Token) (v : Value) → ReadsValue N depth (k ∷ ts) rest v
    → sort_of v ≡ token_sort k
sort-read N leaves depth k ts rest v x =
    let h = parsed_before (value_of_json N) (value depth (k ∷ ts)) v rest x.read in
    sort-json N leaves h.0 v h.2
    ∙ sort-parsed _ _ k ts rest h.0 (sym (value_is depth (k ∷ ts)) ∙ h.1)

-- ---- tokens that begin no list, and no object

sort-key : (o : Option (List ℕ)) → token_sort (key_token o) ≡ other
sort-key None = refl
sort-key (Some n) = refl

sort-text : (o : Option (List ℕ)) → token_sort (string_token o) ≡ other
sort-text None = refl
sort-text (Some n) = refl

pub begins-list : (t : Token) → token_sort (token_of t) ≡ a_list → t ≡ code.BeginArray
begins-list code.BeginArray is = refl
begins-list code.EndArray is = absurd (cc)
begins-list code.BeginObject is = absurd (cc)
begins-list code.EndObject is = absurd (cc)
begins-list (code.Key s) is = let sort = sort-key (said s) in absurd (cc)
begins-list (code.Text s) is = let sort = sort-text (said s) in absurd (cc)
begins-list (code.Number s n) is = absurd (cc)
begins-list (code.Numeral first s) is = absurd (cc)
begins-list (code.Bool b) is = absurd (cc)
begins-list code.Null is = absurd (cc)

pub begins-object : (t : Token) → token_sort (token_of t) ≡ an_object → t ≡ code.BeginObject
begins-object code.BeginObject is = refl
begins-object code.EndArray is = absurd (cc)
begins-object code.BeginArray is = absurd (cc)
begins-object code.EndObject is = absurd (cc)
begins-object (code.Key s) is = let sort = sort-key (said s) in absurd (cc)
begins-object (code.Text s) is = let sort = sort-text (said s) in absurd (cc)
begins-object (code.Number s n) is = absurd (cc)
begins-object (code.Numeral first s) is = absurd (cc)
begins-object (code.Bool b) is = absurd (cc)
begins-object code.Null is = absurd (cc)
