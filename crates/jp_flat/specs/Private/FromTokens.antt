-- Values straight from the tokens of a text, by what becomes of the text of a number.
use Rattle.std.specs.Prelude.{◌≡◌, ℕ, List, [], Option, Some, option_map, option_and_then}
use Rattle.json.specs.Token.{Token}
use Rattle.json.specs.Json as json
use Rattle.jp_document.specs.Value.{Value, Items}
use Rattle.jp_document.specs.OfJson.{value_of_json, items_of_json, members_of_json, json_in}

-- what was read, under f
abbrev pub converted : {A B : Type 0} → (A → Option B) → Option (A × List Token)
    → Option (B × List Token)
converted f read = option_and_then (λ p. option_map (λ b. (b, p.1)) (f p.0)) read

module _ (numbers : List ℕ → Option Value) where
  -- the text has the value v
  pub record ReadsText (text : List ℕ) (v : Value) : Type 0 where
    pub parsed : json.Json
    pub read : json_in text ≡ Some parsed
    pub holds : value_of_json numbers parsed ≡ Some v

  -- the tokens begin with the value v, nested no deeper than the number, and the rest follows
  pub record ReadsValue (depth : ℕ) (ts rest : List Token) (v : Value) : Type 0 where
    pub read : converted (value_of_json numbers) (json.value depth ts) ≡ Some (v, rest)

  -- the same of the items of a list, in at most so many rounds
  pub record ReadsItems (depth rounds : ℕ) (ts rest : List Token) (vs : Items) : Type 0 where
    pub read :
        converted (items_of_json numbers) (json.items (json.value depth) rounds ts)
        ≡ Some (vs, rest)

  -- the same of the members of an object
  pub record ReadsMembers (depth rounds : ℕ) (ts rest : List Token) (ms : List (List ℕ × Value))
      : Type 0 where
    pub read :
        converted (λ js. members_of_json numbers js []) (json.members (json.value depth) rounds ts)
        ≡ Some (ms, rest)
