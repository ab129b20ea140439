-- The value of what the grammar of JSON reads, with numbers as the text writes them: each has one.
use Rattle.std.specs.Prelude.{◌<◌, ℕ, List, [], Option, Some, None}
use Rattle.std.specs.Borrow.{Bor}
use Rattle.std.specs.BTreeMap.{insert_entry}
use Rattle.std.specs.Cmp.Lexicographic.{slice_cmp}
use Rattle.std.specs.List.{slice_get}
use Rattle.std.specs.Ordering.{nat_cmp}
use Rattle.json.specs.Json as json
use Rattle.json.specs.Value.{value_view}
use Rattle.json.specs.declared.value.Value.{Value as Parsed}
use Rattle.jp_decimal.specs.TextValue.{value_of_text}
use Rattle.jp_document.specs.NumberValue.{number_value}
use Rattle.jp_document.specs.Value.{Value, null, boolean, text, list, object, Items, no_items, item}
use Rattle.jp_document.specs.Value.{members_of}

abbrev mutual
  pub value_in : json.Json → Value
  value_in json.null = null
  value_in (json.boolean b) = boolean b
  value_in (json.number s) = number_value (value_of_text s)
  value_in (json.string s) = text s
  value_in (json.array js) = list (items_in js)
  value_in (json.object ms) = object (members_of (members_in ms []))

  pub items_in : json.Items → Items
  items_in json.no_items = no_items
  items_in (json.item j js) = item (value_in j) (items_in js)

  -- the members, put one after another into those before
  pub members_in : json.Members → List (List ℕ × Value) → List (List ℕ × Value)
  members_in json.no_members found = found
  members_in (json.member k j ms) found =
      members_in ms (insert_entry (slice_cmp nat_cmp) found k (value_in j))

-- ---- members by where they stand

-- the value of a member, if there is one
abbrev pub value_of_member : {A : Type 0} → Option (Bor (List ℕ) × Parsed A) → Value
value_of_member None = null
value_of_member (Some m) = value_in (value_view m.1)

-- the name, with the value of the member that stands at that place among these
abbrev pub member_there : {A : Type 0} → List (Bor (List ℕ) × Parsed A) → Bor (List ℕ) × ℕ
    → List ℕ × Value
member_there ms e = (e.0.now, value_of_member (slice_get ms e.1))

-- the place is one of so many
abbrev pub StandsBefore : ℕ → Bor (List ℕ) × ℕ → Type 0
StandsBefore n e = e.1 < n
