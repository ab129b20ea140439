-- JSON values (RFC 9535 section 1.1). The numbers of documents are whole; what else a number can be
-- is a decimal.
use Rattle.std.specs.Prelude.{ℕ, suc, ℤ, Bool, true, false, ◌&&◌, nat_le, ◌≡◌, List, [], ◌∷◌}
use Rattle.std.specs.Prelude.{Option, Some, None}
use Rattle.std.specs.Prelude.{string_bytes}
use Rattle.std.specs.Cmp.Lexicographic.{slice_cmp}
use Rattle.std.specs.List.{list_all}
use Rattle.std.specs.Ordering.{is_lt, nat_cmp}
use Rattle.std.specs.Str.{is_utf8}
use Rattle.jp_reading.specs.Numbers.{largest_exact}
use Rattle.jp_decimal.specs.Number.{is_decimal, is_in_64_bits}
use Rattle.jp_document.specs.declared.value.Json.{Json, fold-Json}
use Rattle.jp_document.specs.declared.value.Member.{Member, fold-Member}
use Rattle.jp_document.specs.declared.value.Json.TheOpen.{Json-F, Member-F}

-- A value: null, a truth value, a whole number, any other number as a coefficient with the power of
-- ten that it is to be multiplied by, the UTF-8 bytes of a text, a list of values, or named values.
mutual
  pub data Value : Type 0 where
    null : Value
    boolean : Bool → Value
    whole : ℤ → Value
    decimal : ℤ → ℤ → Value
    text : List ℕ → Value
    list : Items → Value
    object : Members → Value

  pub data Items : Type 0 where
    no_items : Items
    item : Value → Items → Items

  pub data Members : Type 0 where
    no_members : Members
    member : List ℕ → Value → Members → Members

-- how many items
abbrev pub item_count : Items → ℕ
item_count no_items = 0
item_count (item v vs) = suc (item_count vs)

-- how many items a value has, if it is a list
abbrev pub list_length : Value → Option ℕ
list_length (list items) = Some (item_count items)
list_length _ = None

-- the names, in the members' order
abbrev pub names_of : Members → List (List ℕ)
names_of no_members = []
names_of (member n v ms) = n ∷ names_of ms

-- each name is below all that come after it, by bytes
abbrev pub names_rise : List (List ℕ) → Bool
names_rise [] = true
names_rise (n ∷ ns) = list_all (λ m. is_lt (slice_cmp nat_cmp n m)) ns && names_rise ns

-- v and every value inside it pass the test
abbrev mutual
  pub everywhere : (Value → Bool) → Value → Bool
  everywhere p null = p null
  everywhere p (boolean b) = p (boolean b)
  everywhere p (whole z) = p (whole z)
  everywhere p (decimal c e) = p (decimal c e)
  everywhere p (text s) = p (text s)
  everywhere p (list vs) = p (list vs) && everywhere_in_items p vs
  everywhere p (object ms) = p (object ms) && everywhere_in_members p ms

  pub everywhere_in_items : (Value → Bool) → Items → Bool
  everywhere_in_items p no_items = true
  everywhere_in_items p (item v vs) = everywhere p v && everywhere_in_items p vs

  pub everywhere_in_members : (Value → Bool) → Members → Bool
  everywhere_in_members p no_members = true
  everywhere_in_members p (member n v ms) = everywhere p v && everywhere_in_members p ms

-- a list has at most (2^53)-1 items
abbrev pub list_fits : Value → Bool
list_fits (list vs) = nat_le (item_count vs) largest_exact
list_fits _ = true

-- the names rise, and each is a text: the UTF-8 of scalar values (RFC 8259 section 8.1)
abbrev pub names_fit : List (List ℕ) → Bool
names_fit ns = names_rise ns && list_all is_utf8 ns

-- what is asked of each value in a document's: whole numbers of 64 bits, decimals in the form that
-- they are held in, texts in UTF-8, lists that fit, names that fit
abbrev pub is_allowed : Value → Bool
is_allowed null = true
is_allowed (boolean b) = true
is_allowed (whole z) = is_in_64_bits z
is_allowed (decimal c e) = is_decimal c e
is_allowed (text s) = is_utf8 s
is_allowed (list vs) = list_fits (list vs)
is_allowed (object ms) = names_fit (names_of ms)

-- v is no decimal
abbrev pub is_no_decimal : Value → Bool
is_no_decimal (decimal c e) = false
is_no_decimal v = true

-- v may be a document's value
abbrev pub IsDocumentValue : Value → Type 0
IsDocumentValue v = everywhere is_allowed v ≡ true

-- the names of an object rise; other values have none
abbrev pub has_rising_names : Value → Bool
has_rising_names (object ms) = names_rise (names_of ms)
has_rising_names _ = true

-- names rise in v and in every value inside it
abbrev pub NamesRise : Value → Type 0
NamesRise v = everywhere has_rising_names v ≡ true

-- ---- the value that a `Json` stands for

abbrev pub items_of : List Value → Items
items_of [] = no_items
items_of (v ∷ vs) = item v (items_of vs)

abbrev pub members_of : List (List ℕ × Value) → Members
members_of [] = no_members
members_of (m ∷ ms) = member m.0 m.1 (members_of ms)

-- one layer, with the value of each part in its place
abbrev pub json_layer : Json-F Value (List ℕ × Value) → Value
json_layer Json-F.Null = null
json_layer (Json-F.Bool b) = boolean b
json_layer (Json-F.Whole z) = whole z
json_layer (Json-F.Decimal e c) = decimal c e
json_layer (Json-F.Text s) = text (string_bytes s)
json_layer (Json-F.List v) = list (items_of v.items)
json_layer (Json-F.Members v) = object (members_of v.items)

abbrev pub member_layer : Member-F Value (List ℕ × Value) → List ℕ × Value
member_layer m = (string_bytes m.name, m.value)

abbrev pub value_of : Json → Value
value_of = fold-Json Value (List ℕ × Value) json_layer member_layer

-- the name and the value of a member
abbrev pub member_of : Member → List ℕ × Value
member_of = fold-Member Value (List ℕ × Value) json_layer member_layer
