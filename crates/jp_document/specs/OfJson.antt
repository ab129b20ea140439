-- The value of what the grammar of JSON reads, by what becomes of the text of a number.
use Rattle.std.specs.Prelude.{◌≡◌, ℕ, List, [], Option, Some, None, IsUtf8, option_map}
use Rattle.std.specs.Prelude.{option_and_then}
use Rattle.std.specs.BTreeMap.{insert_entry}
use Rattle.std.specs.Cmp.Lexicographic.{slice_cmp}
use Rattle.std.specs.Ordering.{nat_cmp}
use Rattle.json.specs.Json as json
use Rattle.json.specs.Lex.{tokens}
use Rattle.jp_document.specs.Value.{Value, null, boolean, text, list, object, Items, no_items, item}
use Rattle.jp_document.specs.Value.{members_of}

-- the most levels of lists and objects in a document
abbrev pub most_levels : ℕ
most_levels = 127

-- what the grammar reads a whole text as, nested no deeper than a document
abbrev pub json_in : List ℕ → Option json.Json
json_in source =
    option_and_then (λ p. json.if_last p.0 p.1) (json.value most_levels (tokens source))

-- the bytes are no UTF-8, or no JSON text (RFC 8259) of at most 127 levels
abbrev pub IsNoText : List ℕ → Type 0
IsNoText bytes = IsUtf8 bytes → json_in bytes ≡ None

-- Where numbers s is the value of a number with the text s, None where it has none. The members go
-- in one after another, by the bytes of their names, so the last value of a name stays.
module _ (numbers : List ℕ → Option Value) where
  abbrev mutual
    pub value_of_json : json.Json → Option Value
    value_of_json json.null = Some null
    value_of_json (json.boolean b) = Some (boolean b)
    value_of_json (json.number s) = numbers s
    value_of_json (json.string s) = Some (text s)
    value_of_json (json.array js) = option_map list (items_of_json js)
    value_of_json (json.object ms) =
        option_map (λ found. object (members_of found)) (members_of_json ms [])

    pub items_of_json : json.Items → Option Items
    items_of_json json.no_items = Some no_items
    items_of_json (json.item j js) =
        option_and_then (λ v. option_map (item v) (items_of_json js)) (value_of_json j)

    pub members_of_json : json.Members → List (List ℕ × Value) → Option (List (List ℕ × Value))
    members_of_json json.no_members found = Some found
    members_of_json (json.member k j ms) found =
        option_and_then (λ v. members_of_json ms (insert_entry (slice_cmp nat_cmp) found k v))
        (value_of_json j)
