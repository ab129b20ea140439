-- A JSON value that is read from tokens with texts holds texts: for the ranges of readings.
use Rattle.std.proofs.Common.{◌≡◌, ℕ, zero, suc, Bool, true, ◌&&◌, List, [], ◌∷◌, length}
use Rattle.std.proofs.Common.{Option, Some, None, option_and_then, IsUtf8, refl, sym, ap, ◌∙◌}
use Rattle.std.specs.Str.{is_utf8}
use Rattle.std.proofs.lemmas.Bool.{and_from}
use Rattle.std.proofs.lemmas.Option.{none-some, same_Some}
use Rattle.json.specs.Json as json
use Rattle.json.specs.Json.{Json, Parse, after_end_array, if_last, items, items_step}
use Rattle.json.specs.Json.{members, members_step, parse_map, read_key, value, value_with}
use Rattle.json.specs.Lex.{tokens}
use Rattle.json.specs.Token.{Token}
use Rattle.serde_json.specs.Read.{max_depth}
use Rattle.jp_reading.proofs.Conjunctions.{and-left, and-right}
use Rattle.jp_document.proofs.Utf8.Tokens.{are_texts, tokens_are_texts}

-- every string and name in a value is a text
abbrev mutual
  pub json_texts : Json → Bool
  json_texts (json.string s) = is_utf8 s
  json_texts (json.array js) = items_texts js
  json_texts (json.object ms) = members_texts ms
  json_texts j = true

  pub items_texts : json.Items → Bool
  items_texts json.no_items = true
  items_texts (json.item j js) = json_texts j && items_texts js

  pub members_texts : json.Members → Bool
  members_texts json.no_members = true
  members_texts (json.member n j ms) = is_utf8 n && (json_texts j && members_texts ms)

-- what was read, and the tokens that are left, hold texts
record HoldsTexts {A : Type 0} (texts : A → Bool) (o : Option (A × List Token)) : Type 0 where
  pub each : (a : A) (r : List Token) → o ≡ Some (a, r) → (texts a ≡ true) × (are_texts r ≡ true)

same_read : {A : Type 0} (texts : A → Bool) (p q : A × List Token) → Some p ≡ Some q
    → texts p.0 ≡ true → are_texts p.1 ≡ true → (texts q.0 ≡ true) × (are_texts q.1 ≡ true)
same_read texts p q is here later =
    let same : p ≡ q = same_Some p q is in
    (ap (λ x. texts x.0) (sym same) ∙ here, ap (λ x. are_texts x.1) (sym same) ∙ later)

-- a reader reads texts from tokens with texts
record KeepsTexts {A : Type 0} (texts : A → Bool) (p : Parse A) : Type 0 where
  pub read : (ts : List Token) → are_texts ts ≡ true → HoldsTexts texts (p ts)

read_none : {A : Type 0} (texts : A → Bool) → HoldsTexts texts None
read_none texts = record { each = λ a r is. absurd (none-some (a, r) is) }

read_some : {A : Type 0} (texts : A → Bool) (a : A) (r : List Token) → texts a ≡ true
    → are_texts r ≡ true → HoldsTexts texts (Some (a, r))
read_some texts a r here later =
    record { each = λ b s is. same_read texts (a, r) (b, s) is here later }

read_map : {A B : Type 0} (texts : A → Bool) (more : B → Bool) (f : A → B)
    (o : Option (A × List Token)) → ((a : A) → texts a ≡ true → more (f a) ≡ true)
    → HoldsTexts texts o → HoldsTexts more (parse_map f o)
read_map texts more f None grows is = read_none more
read_map texts more f (Some p) grows is =
    let both = is.each p.0 p.1 refl in read_some more (f p.0) p.1 (grows p.0 both.0) both.1

read_then : {A B : Type 0} (texts : A → Bool) (more : B → Bool) (o : Option (A × List Token))
    (k : A × List Token → Option (B × List Token))
    → ((a : A) (r : List Token) → texts a ≡ true → are_texts r ≡ true → HoldsTexts more (k (a, r)))
    → HoldsTexts texts o → HoldsTexts more (option_and_then k o)
read_then texts more None k next is = read_none more
read_then texts more (Some p) k next is =
    let both = is.each p.0 p.1 refl in next p.0 p.1 both.0 both.1

-- ---- steps

closed : (ts : List Token) (r : List Token) → after_end_array ts ≡ Some r → are_texts ts ≡ true
    → are_texts r ≡ true
closed (Token.end_array ∷ ts) r is all = let same : ts ≡ r = cc in ap are_texts (sym same) ∙ all
closed ts r is all = absurd (cc)

abbrev key_text : Option (List ℕ) → Bool
key_text None = true
key_text (Some k) = is_utf8 k

keyed : (ts : List Token) → are_texts ts ≡ true → HoldsTexts key_text (read_key ts)
keyed (Token.key s ∷ ts) all = read_some key_text (Some s) ts (and-left _ _ all) (and-right _ _ all)
keyed (Token.end_object ∷ ts) all = read_some key_text None ts refl all
keyed ts all = read_none key_text

items_by : (p : Parse Json) (more : Parse json.Items) (ts : List Token) (o : Option (List Token))
    → after_end_array ts ≡ o → are_texts ts ≡ true → KeepsTexts json_texts p
    → KeepsTexts items_texts more → HoldsTexts items_texts (items_step p more ts o)
items_by p more ts (Some r) is all one rest =
    read_some items_texts json.no_items r refl (closed ts r is all)
items_by p more ts None is all one rest =
    read_then json_texts items_texts (p ts) _
    (λ j r here later. read_map items_texts items_texts (json.item j) (more r)
    (λ js there. and_from _ _ here there) (rest.read r later)) (one.read ts all)

items_read : (p : Parse Json) (n : ℕ) → KeepsTexts json_texts p → KeepsTexts items_texts (items p n)
unfolding items
items_read p zero one = record { read = λ ts all. read_none items_texts }
items_read p (suc n) one =
    record {
      read = λ ts all. items_by p (items p n) ts (after_end_array ts) refl all one
          (items_read p n one);
    }

members_by : (p : Parse Json) (more : Parse json.Members) (k : Option (List ℕ)) (ts : List Token)
    → key_text k ≡ true → are_texts ts ≡ true → KeepsTexts json_texts p
    → KeepsTexts members_texts more → HoldsTexts members_texts (members_step p more k ts)
members_by p more None ts name all one rest = read_some members_texts json.no_members ts refl all
members_by p more (Some k) ts name all one rest =
    read_then json_texts members_texts (p ts) _
    (λ j r here later. read_map members_texts members_texts (json.member k j) (more r)
    (λ ms there. and_from _ _ name (and_from _ _ here there)) (rest.read r later)) (one.read ts all)

members_read : (p : Parse Json) (n : ℕ) → KeepsTexts json_texts p
    → KeepsTexts members_texts (members p n)
unfolding members
members_read p zero one = record { read = λ ts all. read_none members_texts }
members_read p (suc n) one = record {
  read =
      λ ts all. read_then key_text members_texts (read_key ts)
      (λ q. members_step p (members p n) q.0 q.1)
      (λ k r name later. members_by p (members p n) k r name later one (members_read p n one))
      (keyed ts all);
}

-- ---- values

with_read : (a : Parse json.Items) (o : Parse json.Members) (ts : List Token)
    → KeepsTexts items_texts a → KeepsTexts members_texts o → are_texts ts ≡ true
    → HoldsTexts json_texts (value_with a o ts)
with_read a o (Token.begin_object ∷ ts) some many all =
    read_map members_texts json_texts json.object (o ts) (λ ms is. is) (many.read ts all)
with_read a o (Token.begin_array ∷ ts) some many all =
    read_map items_texts json_texts json.array (a ts) (λ js is. is) (some.read ts all)
with_read a o (Token.string s ∷ ts) some many all =
    read_some json_texts (json.string s) ts (and-left _ _ all) (and-right _ _ all)
with_read a o (Token.number s ∷ ts) some many all = read_some json_texts (json.number s) ts refl all
with_read a o (Token.boolean b ∷ ts) some many all =
    read_some json_texts (json.boolean b) ts refl all
with_read a o (Token.null ∷ ts) some many all = read_some json_texts json.null ts refl all
with_read a o ts some many all = read_none json_texts

value_read : (depth : ℕ) → KeepsTexts json_texts (value depth)
unfolding value
value_read zero = record {
  read =
      λ ts all. with_read (λ ts. None) (λ ts. None) ts
      (record { read = λ ts all. read_none items_texts })
      (record { read = λ ts all. read_none members_texts }) all;
}
value_read (suc depth) = record {
  read =
      λ ts all. with_read (λ ts. items (value depth) (length ts) ts)
      (λ ts. members (value depth) (length ts) ts) ts
      (record {
        read = λ r more. (items_read (value depth) (length r) (value_read depth)).read
            r more;
      })
      (record {
        read = λ r more. (members_read (value depth) (length r) (value_read depth)).read r
            more;
      }) all;
}

last_is : (j : Json) (ts : List Token) (k : Json) → if_last j ts ≡ Some k → j ≡ k
last_is j [] k is = cc
last_is j (t ∷ ts) k is = absurd (cc)

whole_text : (o : Option (Json × List Token)) (j : Json)
    → option_and_then (λ p. if_last p.0 p.1) o ≡ Some j → HoldsTexts json_texts o
    → json_texts j ≡ true
whole_text None j is read = absurd (cc)
whole_text (Some p) j is read =
    ap json_texts (sym (last_is p.0 p.1 j is)) ∙ (read.each p.0 p.1 refl).0

-- the value that a text is holds texts
pub text_of_texts : (text : List ℕ) (j : Json) → IsUtf8 text
    → option_and_then (λ p. if_last p.0 p.1) (value max_depth (tokens text)) ≡ Some j
    → json_texts j ≡ true
text_of_texts text j utf8 is =
    whole_text (value max_depth (tokens text)) j is
    ((value_read max_depth).read (tokens text) (tokens_are_texts text utf8))
