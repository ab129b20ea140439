-- What the tokens of a text tell of one that is no JSON.
use Rattle.std.specs.Prelude.{◌≡◌, ◌⊎◌, ℕ, Bool, true, false, List, [], ◌∷◌, Some, None}
use Rattle.json.specs.Json.{skip_value}
use Rattle.json.specs.Reads.{skip_items, skip_members}
use Rattle.json.specs.Token.{Token}
use Rattle.jp_flat.specs.declared.met.Met.{Met}
use Rattle.jp_flat.specs.declared.met.Met.TheVariants.{End, Fault, Other}
use Rattle.jp_flat.specs.declared.no_json.Impasse.{Impasse}
use Rattle.jp_flat.specs.declared.no_json.Impasse.TheVariants.{Here, NoValue}
use Rattle.jp_flat.specs.declared.no_json.TokenKind.{TokenKind}
use Rattle.jp_flat.specs.declared.no_json.TokenKind.TheVariants.{BeginArray, BeginObject, EndArray, EndObject, Key, Leaf}

-- a value that is a token alone
abbrev pub is_lone : Token → Bool
is_lone Token.begin_object = false
is_lone Token.end_object = false
is_lone Token.begin_array = false
is_lone Token.end_array = false
is_lone (Token.key s) = false
is_lone (Token.string s) = true
is_lone (Token.number s) = true
is_lone (Token.boolean b) = true
is_lone Token.null = true
is_lone Token.bad = false

abbrev pub IsOfKind : TokenKind → Token → Type 0
IsOfKind BeginArray t = t ≡ Token.begin_array
IsOfKind EndArray t = t ≡ Token.end_array
IsOfKind BeginObject t = t ≡ Token.begin_object
IsOfKind EndObject t = t ≡ Token.end_object
IsOfKind Key t = (s : List ℕ) × (t ≡ Token.key s)
IsOfKind Leaf t = is_lone t ≡ true

-- the tokens begin with one of that kind, and the rest follows
pub record IsAhead (ts : List Token) (kind : TokenKind) (rest : List Token) : Type 0 where
  pub token : Token
  pub is : ts ≡ token ∷ rest
  pub of_kind : IsOfKind kind token

-- a bad token comes first
pub record IsBad (ts : List Token) : Type 0 where
  pub rest : List Token
  pub is : ts ≡ Token.bad ∷ rest

-- a bad token comes behind a value that is a token alone
pub record IsBadBehindLeaf (ts : List Token) : Type 0 where
  pub token : Token
  pub rest : List Token
  pub is : ts ≡ token ∷ Token.bad ∷ rest
  pub leaf : is_lone token ≡ true

-- no JSON text goes on with these tokens
abbrev pub IsFault : List Token → Type 0
IsFault ts = IsBad ts ⊎ IsBadBehindLeaf ts

-- what these tokens are, of which the cursor gives none
abbrev pub IsMet : List Token → Met → Type 0
IsMet ts End = ts ≡ []
IsMet ts Fault = IsFault ts
IsMet ts Other = Unit {0}

-- the tokens begin with no value, nested no deeper than the number, that a JSON text goes on behind
abbrev pub HasNoValue : ℕ → List Token → Type 0
HasNoValue depth ts = (rest : List Token) → skip_value depth ts ≡ Some rest → IsBad rest

-- the tokens are not those of items and of the end of their list
abbrev pub HasNoItems : ℕ → List Token → Type 0
HasNoItems depth ts = skip_items depth ts ≡ None

-- the same of members and of the end of their object
abbrev pub HasNoMembers : ℕ → List Token → Type 0
HasNoMembers depth ts = skip_members depth ts ≡ None

-- that holds, or it does if no token follows where the cursor is now
abbrev pub Halts : Impasse → List Token → Type 0 → Type 0
Halts NoValue now P = P
Halts Here now P = (now ≡ []) ⊎ IsFault now → P
