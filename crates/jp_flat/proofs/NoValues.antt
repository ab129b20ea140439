-- Tokens that no JSON text is made of: for `no_json`.
use Rattle.std.proofs.Common.{◌≡◌, ◌≢◌, ℕ, zero, suc, ◌<◌, ◌≤◌, ◌-◌, ◌⊎◌, inl, inr, true, List, [], ◌∷◌}
use Rattle.std.proofs.Common.{Err, IfErr, Ok, OnOk, Option, Result, Some, None, option_and_then, length, refl, sym, ap, ◌∙◌, unwrap_or, arith}
use Rattle.json.specs.Json.{Json, after_end_array, if_last, items, members, read_key, skip_value, value}
use Rattle.json.specs.Lex.{tokens}
use Rattle.json.specs.Reads.{skip_items, skip_members}
use Rattle.json.specs.Token.{Token}
use Rattle.json.proofs.Grammar.{items_end, items_fail, left, left-parse_map, left_none, members_end, members_fail}
use Rattle.json.proofs.Grammar.{members_no_key, read_key-shorter, skip_item, skip_member, value-begin_array}
use Rattle.json.proofs.Grammar.{value-begin_object, value_is}
use Rattle.serde_json.specs.Data.{Data}
use Rattle.serde_json.specs.Read.{of_json}
use Rattle.jp_document.specs.Document.{HasDefect, not_json}
use Rattle.jp_document.specs.OfJson.{IsNoText, most_levels}
use Rattle.jp_flat.specs.Private.NoJson.{Halts, IsAhead, IsFault, IsMet, HasNoItems, HasNoMembers, HasNoValue, is_lone}
use Rattle.jp_flat.specs.declared.met.Met.{Met}
use Rattle.jp_flat.specs.declared.met.Met.TheVariants.{End, Fault, Other}
use Rattle.jp_flat.specs.declared.no_json.Impasse.{Impasse}
use Rattle.jp_flat.specs.declared.no_json.Impasse.TheVariants.{Here, NoValue}
use Rattle.jp_flat.specs.declared.no_json.TokenKind.{TokenKind}
use Rattle.jp_flat.specs.declared.no_json.TokenKind.TheVariants.{BeginArray, BeginObject, EndArray, EndObject, Key, Leaf}

none-read : {P A : Type 0} (o : Option A) (x : A) → o ≡ None → o ≡ Some x → P
none-read o x none some = let e = sym none ∙ some in absurd (cc e)

the-rest : (ts rs : List Token) → Some ts ≡ Some rs → ts ≡ rs
the-rest ts rs e = ap (λ o. unwrap_or o []) e

-- ---- a value that is a token alone

leaf-read : (depth : ℕ) (k : Token) (rest : List Token) → is_lone k ≡ true
    → skip_value depth (k ∷ rest) ≡ Some rest
leaf-read depth Token.begin_object rest leaf = absurd (cc leaf)
leaf-read depth Token.end_object rest leaf = absurd (cc leaf)
leaf-read depth Token.begin_array rest leaf = absurd (cc leaf)
leaf-read depth Token.end_array rest leaf = absurd (cc leaf)
leaf-read depth (Token.key s) rest leaf = absurd (cc leaf)
leaf-read depth (Token.string s) rest leaf = ap left (value_is depth (Token.string s ∷ rest))
leaf-read depth (Token.number s) rest leaf = ap left (value_is depth (Token.number s ∷ rest))
leaf-read depth (Token.boolean b) rest leaf = ap left (value_is depth (Token.boolean b ∷ rest))
leaf-read depth Token.null rest leaf = ap left (value_is depth (Token.null ∷ rest))
leaf-read depth Token.bad rest leaf = absurd (cc leaf)

leaf-no-end : (k : Token) (rest : List Token) → is_lone k ≡ true → after_end_array (k ∷ rest) ≡ None
leaf-no-end Token.begin_object rest leaf = refl
leaf-no-end Token.end_object rest leaf = refl
leaf-no-end Token.begin_array rest leaf = refl
leaf-no-end Token.end_array rest leaf = absurd (cc leaf)
leaf-no-end (Token.key s) rest leaf = refl
leaf-no-end (Token.string s) rest leaf = refl
leaf-no-end (Token.number s) rest leaf = refl
leaf-no-end (Token.boolean b) rest leaf = refl
leaf-no-end Token.null rest leaf = refl
leaf-no-end Token.bad rest leaf = refl

leaf-no-key : (k : Token) (rest : List Token) → is_lone k ≡ true → read_key (k ∷ rest) ≡ None
leaf-no-key Token.begin_object rest leaf = refl
leaf-no-key Token.end_object rest leaf = absurd (cc leaf)
leaf-no-key Token.begin_array rest leaf = refl
leaf-no-key Token.end_array rest leaf = refl
leaf-no-key (Token.key s) rest leaf = absurd (cc leaf)
leaf-no-key (Token.string s) rest leaf = refl
leaf-no-key (Token.number s) rest leaf = refl
leaf-no-key (Token.boolean b) rest leaf = refl
leaf-no-key Token.null rest leaf = refl
leaf-no-key Token.bad rest leaf = refl

-- ---- where no token is told, and none stands there

module _ (ts : List Token) (halt : (ts ≡ []) ⊎ IsFault ts) where
  pub halt-value : (depth : ℕ) → HasNoValue depth ts
  halt-value depth = go halt
    where
      go : (ts ≡ []) ⊎ IsFault ts → HasNoValue depth ts
      go (inl e) rest is =
          none-read (skip_value depth ts) rest
          (ap (skip_value depth) e ∙ ap left (value_is depth [])) is
      go (inr (inl b)) rest is =
          none-read (skip_value depth ts) rest
          (ap (skip_value depth) b.is ∙ ap left (value_is depth (Token.bad ∷ b.rest))) is
      go (inr (inr b)) rest is = record {
        rest = b.rest;
        is =
            the-rest _ _ (sym is ∙ ap (skip_value depth) b.is
            ∙ leaf-read depth b.token (Token.bad ∷ b.rest) b.leaf);
      }

  pub halt-end : after_end_array ts ≡ None
  halt-end = go halt
    where
      go : (ts ≡ []) ⊎ IsFault ts → after_end_array ts ≡ None
      go (inl e) = ap after_end_array e
      go (inr (inl b)) = ap after_end_array b.is
      go (inr (inr b)) = ap after_end_array b.is ∙ leaf-no-end b.token _ b.leaf

  pub halt-key : read_key ts ≡ None
  halt-key = go halt
    where
      go : (ts ≡ []) ⊎ IsFault ts → read_key ts ≡ None
      go (inl e) = ap read_key e
      go (inr (inl b)) = ap read_key b.is
      go (inr (inr b)) = ap read_key b.is ∙ leaf-no-key b.token _ b.leaf

-- ---- by the kind of the token ahead

module _ (ts rest : List Token) where
  pub passes-leaf : (depth : ℕ) → IsAhead ts Leaf rest → skip_value depth ts ≡ Some rest
  passes-leaf depth x = ap (skip_value depth) x.is ∙ leaf-read depth x.token rest x.of_kind

  array-there : IsAhead ts BeginArray rest → ts ≡ Token.begin_array ∷ rest
  array-there x = x.is ∙ ap (λ k. k ∷ rest) x.of_kind

  object-there : IsAhead ts BeginObject rest → ts ≡ Token.begin_object ∷ rest
  object-there x = x.is ∙ ap (λ k. k ∷ rest) x.of_kind

  pub list-is : (depth : ℕ) → 0 < depth → IsAhead ts BeginArray rest
      → skip_value depth ts ≡ skip_items (depth - 1) rest
  list-is depth deep x =
      ap (skip_value depth) (array-there x) ∙ ap left (value-begin_array depth rest deep)
      ∙ left-parse_map _ _

  pub object-is : (depth : ℕ) → 0 < depth → IsAhead ts BeginObject rest
      → skip_value depth ts ≡ skip_members (depth - 1) rest
  object-is depth deep x =
      ap (skip_value depth) (object-there x) ∙ ap left (value-begin_object depth rest deep)
      ∙ left-parse_map _ _

  pub not-list : (depth : ℕ) → 0 < depth → IsAhead ts BeginArray rest → HasNoItems (depth - 1) rest
      → HasNoValue depth ts
  not-list depth deep x none r is = none-read (skip_value depth ts) r (list-is depth deep x ∙ none) is

  pub not-object : (depth : ℕ) → 0 < depth → IsAhead ts BeginObject rest
      → HasNoMembers (depth - 1) rest → HasNoValue depth ts
  not-object depth deep x none r is =
      none-read (skip_value depth ts) r (object-is depth deep x ∙ none) is

  pub too-deep : (depth : ℕ) → depth ≡ 0
      → IsAhead ts BeginArray rest ⊎ IsAhead ts BeginObject rest → HasNoValue depth ts
  unfolding value
  too-deep depth end (inl x) r is =
      none-read (skip_value depth ts) r
      (ap (λ n. skip_value n ts) end ∙ ap (skip_value 0) (array-there x)) is
  too-deep depth end (inr x) r is =
      none-read (skip_value depth ts) r
      (ap (λ n. skip_value n ts) end ∙ ap (skip_value 0) (object-there x)) is

  pub closes-list : IsAhead ts EndArray rest → after_end_array ts ≡ Some rest
  closes-list x = ap after_end_array x.is ∙ ap (λ k. after_end_array (k ∷ rest)) x.of_kind

  pub closes-object : IsAhead ts EndObject rest → read_key ts ≡ Some (None, rest)
  closes-object x = ap read_key x.is ∙ ap (λ k. read_key (k ∷ rest)) x.of_kind

  pub names : (x : IsAhead ts Key rest) → read_key ts ≡ Some (Some x.of_kind.0, rest)
  names x = ap read_key x.is ∙ ap (λ k. read_key (k ∷ rest)) x.of_kind.1

  pub no-value-of : (kind : TokenKind) (depth : ℕ) → IsAhead ts kind rest → kind ≢ Leaf → kind ≢ BeginArray
      → kind ≢ BeginObject → HasNoValue depth ts
  no-value-of BeginArray depth x a b c = absurd (b refl)
  no-value-of EndArray depth x a b c =
      λ r is. none-read (skip_value depth ts) r
      (ap (skip_value depth) (x.is ∙ ap (λ k. k ∷ rest) x.of_kind)
      ∙ ap left (value_is depth (Token.end_array ∷ rest))) is
  no-value-of BeginObject depth x a b c = absurd (c refl)
  no-value-of EndObject depth x a b c =
      λ r is. none-read (skip_value depth ts) r
      (ap (skip_value depth) (x.is ∙ ap (λ k. k ∷ rest) x.of_kind)
      ∙ ap left (value_is depth (Token.end_object ∷ rest))) is
  no-value-of Key depth x a b c =
      λ r is. none-read (skip_value depth ts) r
      (ap (skip_value depth) (x.is ∙ ap (λ k. k ∷ rest) x.of_kind.1)
      ∙ ap left (value_is depth (Token.key x.of_kind.0 ∷ rest))) is
  no-value-of Leaf depth x a b c = absurd (a refl)

  pub no-end-of : (kind : TokenKind) → IsAhead ts kind rest → kind ≢ EndArray → after_end_array ts ≡ None
  no-end-of BeginArray x a = ap after_end_array (array-there x)
  no-end-of EndArray x a = absurd (a refl)
  no-end-of BeginObject x a = ap after_end_array (object-there x)
  no-end-of EndObject x a = ap after_end_array x.is ∙ ap (λ k. after_end_array (k ∷ rest)) x.of_kind
  no-end-of Key x a = ap after_end_array x.is ∙ ap (λ k. after_end_array (k ∷ rest)) x.of_kind.1
  no-end-of Leaf x a = ap after_end_array x.is ∙ leaf-no-end x.token rest x.of_kind

  pub no-key-of : (kind : TokenKind) → IsAhead ts kind rest → kind ≢ EndObject → kind ≢ Key
      → read_key ts ≡ None
  no-key-of BeginArray x a b = ap read_key (array-there x)
  no-key-of EndArray x a b = ap read_key x.is ∙ ap (λ k. read_key (k ∷ rest)) x.of_kind
  no-key-of BeginObject x a b = ap read_key (object-there x)
  no-key-of EndObject x a b = absurd (a refl)
  no-key-of Key x a b = absurd (b refl)
  no-key-of Leaf x a b = ap read_key x.is ∙ leaf-no-key x.token rest x.of_kind

-- ---- the loops

-- of the tokens at the start, what the number of turns reads from here is the answer
pub record ItemsLeft (depth : ℕ) (start here : List Token) : Type 0 where
  pub turns : ℕ
  pub enough : length here ≤ turns
  pub same : skip_items depth start ≡ left (items (value depth) turns here)

pub record MembersLeft (depth : ℕ) (start here : List Token) : Type 0 where
  pub turns : ℕ
  pub enough : length here ≤ turns
  pub same : skip_members depth start ≡ left (members (value depth) turns here)

pub items-start : (depth : ℕ) (ts : List Token) → ItemsLeft depth ts ts
items-start depth ts = record { turns = length ts; enough = omega arith; same = refl }

pub members-start : (depth : ℕ) (ts : List Token) → MembersLeft depth ts ts
members-start depth ts = record { turns = length ts; enough = omega arith; same = refl }

module _ (depth : ℕ) (start here : List Token) where
  pub items-done : (rest : List Token) → ItemsLeft depth start here → after_end_array here ≡ Some rest
      → skip_items depth start ≡ Some rest
  items-done rest x over =
      x.same ∙ ap left (items_end (value depth) x.turns here rest x.enough over)

  pub items-more : (rest : List Token) → ItemsLeft depth start here → after_end_array here ≡ None
      → skip_value depth here ≡ Some rest → length rest < length here → ItemsLeft depth start rest
  items-more rest x none is less = record {
    turns = x.turns - 1;
    enough = omega (arith, less, x.enough);
    same =
        x.same ∙ skip_item (value depth) x.turns here rest (omega (arith, less, x.enough)) none is;
  }

  pub items-none : ItemsLeft depth start here → after_end_array here ≡ None → HasNoValue depth here
      → HasNoItems depth start
  unfolding items
  items-none x none no_value = x.same ∙ go x.turns (skip_value depth here) refl
    where
      go : (n : ℕ) (o : Option (List Token)) → skip_value depth here ≡ o
          → left (items (value depth) n here) ≡ None
      go n None is = ap left (items_fail (value depth) n here none (left_none _ is))
      go zero (Some r) is = refl
      go (suc n) (Some r) is =
          let b = no_value r is in
          skip_item (value depth) (suc n) here r (omega arith) none is
          ∙ ap left (items_fail (value depth) (suc n - 1) r (ap after_end_array b.is)
          (ap (value depth) b.is ∙ value_is depth (Token.bad ∷ b.rest)))

  pub members-done : (rest : List Token) → MembersLeft depth start here
      → read_key here ≡ Some (None, rest) → skip_members depth start ≡ Some rest
  members-done rest x over =
      x.same ∙ ap left (members_end (value depth) x.turns here rest x.enough over)

  pub members-more : (k : List ℕ) (inside rest : List Token) → MembersLeft depth start here
      → read_key here ≡ Some (Some k, inside) → skip_value depth inside ≡ Some rest
      → length rest < length inside → MembersLeft depth start rest
  members-more k inside rest x named is less =
      let lesser = read_key-shorter here (Some k) inside named in
      record {
        turns = x.turns - 1;
        enough = omega (arith, less, lesser, x.enough);
        same =
            x.same
            ∙ skip_member (value depth) x.turns here inside rest k (omega (arith, less, lesser, x.enough)) named
            is;
      }

  pub members-unnamed : MembersLeft depth start here → read_key here ≡ None → HasNoMembers depth start
  members-unnamed x none = x.same ∙ ap left (members_no_key (value depth) x.turns here none)

  pub members-none : (k : List ℕ) (inside : List Token) → MembersLeft depth start here
      → read_key here ≡ Some (Some k, inside) → HasNoValue depth inside → HasNoMembers depth start
  unfolding members
  members-none k inside x named no_value = x.same ∙ go x.turns (skip_value depth inside) refl
    where
      go : (n : ℕ) (o : Option (List Token)) → skip_value depth inside ≡ o
          → left (members (value depth) n here) ≡ None
      go n None is = ap left (members_fail (value depth) n k here inside named (left_none _ is))
      go zero (Some r) is = refl
      go (suc n) (Some r) is =
          let b = no_value r is in
          skip_member (value depth) (suc n) here inside r k (omega arith) named is
          ∙ ap left (members_no_key (value depth) (suc n - 1) r (ap read_key b.is))

-- ---- a whole text

never-read : (o : Option (Json × List Token)) → ((r : List Token) → left o ≡ Some r → r ≢ [])
    → (d : Data) → option_and_then of_json (option_and_then (λ p. if_last p.0 p.1) o) ≡ Some d → ⊥
never-read None goes d is = cc is
never-read (Some (j, [])) goes d is = goes [] refl refl
never-read (Some (j, t ∷ ts)) goes d is = cc is

pub no-json-by : (bytes : List ℕ)
    → ((r : List Token) → skip_value most_levels (tokens bytes) ≡ Some r → r ≢ [])
    → HasDefect bytes not_json
no-json-by bytes goes d reads = never-read _ goes d reads.reading

-- such tokens are not all of a text
behind-none : (bytes : List ℕ) → HasNoValue most_levels (tokens bytes)
    → (r : List Token) → skip_value most_levels (tokens bytes) ≡ Some r → r ≢ []
behind-none bytes none r is empty =
    let b = none r is in
    let e = sym b.is ∙ empty in
    cc e

pub no-json-of : (bytes : List ℕ) → HasNoValue most_levels (tokens bytes) → HasDefect bytes not_json
no-json-of bytes none = no-json-by bytes (behind-none bytes none)

no-text-read : (o : Option (Json × List Token)) → ((r : List Token) → left o ≡ Some r → r ≢ [])
    → option_and_then (λ p. if_last p.0 p.1) o ≡ None
no-text-read None goes = refl
no-text-read (Some (j, [])) goes = absurd (goes [] refl refl)
no-text-read (Some (j, t ∷ ts)) goes = refl

pub no-text-by : (bytes : List ℕ)
    → ((r : List Token) → skip_value most_levels (tokens bytes) ≡ Some r → r ≢ [])
    → IsNoText bytes
no-text-by bytes goes utf8 = no-text-read (value most_levels (tokens bytes)) goes

pub no-text-of : (bytes : List ℕ) → HasNoValue most_levels (tokens bytes) → IsNoText bytes
no-text-of bytes none = no-text-by bytes (behind-none bytes none)

-- ---- through a cursor

pub on-ok : {A E : Type 0} (r : Result A E) {P Q : Type 0} → (P → Q) → OnOk r P → OnOk r Q
on-ok (Ok a) step is = step is
on-ok (Err e) step is = is

pub if-err : {A E : Type 0} (r : Result A E) {P Q : E → Type 0} → ((e : E) → P e → Q e) → IfErr r P
    → IfErr r Q
if-err (Ok a) step is = is
if-err (Err e) step is = step e is

pub halts : (h : Impasse) (now : List Token) {P Q : Type 0} → (P → Q) → Halts h now P → Halts h now Q
halts NoValue now step is = step is
halts Here now step is = λ end. step (is end)

pub met-none : (m : Met) (ts : List Token) {P : Type 0} → IsMet ts m → m ≢ Other
    → Halts Here ts P → P
met-none End ts is told none = none (inl is)
met-none Fault ts is told none = none (inr is)
met-none Other ts is told none = absurd (told refl)
