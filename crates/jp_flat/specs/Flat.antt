-- The values that stand in flat tables: an item by the offsets of its bytes and parts.
use Rattle.std.specs.Prelude.{◌≡◌, ◌+◌, ◌-◌, ◌*◌, ◌^◌, ◌&&◌, ◌++◌, ℕ, suc, zero, pos, negsuc, Bool}
use Rattle.std.specs.Prelude.{List, [], ◌∷◌, Option, Some, None, cond, nat_le, length, take, drop}
use Rattle.std.specs.Prelude.{option_map, option_and_then, string_bytes, unwrap_or, is_some}
use Rattle.jp_decimal.specs.TextValue.{value_of_text}
use Rattle.jp_document.specs.NumberValue.{number_value}
use Rattle.jp_document.specs.OfJson.{most_levels}
use Rattle.jp_document.specs.Value.{Value, null, boolean, whole, text, list, object}
use Rattle.jp_document.specs.Value.{items_of, members_of, everywhere, is_allowed}
use Rattle.jp_flat.specs.declared.item.Halves.{Halves}
use Rattle.jp_flat.specs.declared.item.Item.{Item}
use Rattle.jp_flat.specs.declared.item.Item.TheVariants as code
use Rattle.jp_flat.specs.declared.item.Named.{Named}
use Rattle.jp_flat.specs.declared.item.Span.{Span}
use Rattle.jp_flat.specs.declared.tables.Tables.{Tables}

-- what tables hold: the document's text, the texts that are spelled otherwise in it, the items of
-- lists and the members of objects; and whether numbers that are not whole are taken
pub record Shown : Type 0 where
  pub source : List ℕ
  pub spare : List ℕ
  pub items : List Item
  pub members : List Named
  pub exact : Bool

abbrev pub shown : Tables → Shown
shown t = record {
  source = t.text.now;
  spare = string_bytes t.spare;
  items = t.items.items;
  members = t.members.items;
  exact = t.exact;
}

-- so many entries from the first on, if they are all there
abbrev pub piece : {A : Type 0} → List A → ℕ → ℕ → Option (List A)
piece xs first count =
    cond (nat_le (first + count) (length xs)) (Some (take count (drop first xs))) None

-- the text at a span: a part of the document's text, or of the spare texts, which stand behind it
abbrev pub text_at : Shown → Span → Option (List ℕ)
text_at t s =
    cond (nat_le (s.first + s.count) (length t.source)) (Some (take s.count (drop s.first t.source)))
    (cond (nat_le (length t.source) s.first) (piece t.spare (s.first - length t.source) s.count) None)

-- what f gives of each, if it gives something of all
abbrev pub all_of : {A B : Type 0} → (A → Option B) → List A → Option (List B)
all_of f [] = Some []
all_of f (x ∷ xs) = option_and_then (λ y. option_map (λ ys. y ∷ ys) (all_of f xs)) (f x)

-- the number by its halves
abbrev pub number_of : Halves → ℕ
number_of h = h.high * 2 ^ 32 + h.low

-- a name with its value, by what f makes of items
abbrev pub member_with : (Item → Option Value) → Shown → Named → Option (List ℕ × Value)
member_with f t m =
    option_and_then (λ name. option_map (λ v. (name, v)) (f m.item)) (text_at t m.name)

-- the value of an item, by what f makes of the items inside
abbrev pub value_with : (Item → Option Value) → Shown → Item → Option Value
value_with f t code.Null = Some null
value_with f t (code.Bool b) = Some (boolean b)
value_with f t (code.Above h) = Some (whole (pos (number_of h)))
value_with f t (code.Below h) = Some (whole (negsuc (number_of h)))
value_with f t (code.Numeral s) =
    option_map (λ x. number_value (value_of_text x)) (text_at t s)
value_with f t (code.Text s) = option_map text (text_at t s)
value_with f t (code.List s) =
    option_map (λ vs. list (items_of vs))
    (option_and_then (all_of f) (piece t.items s.first s.count))
value_with f t (code.Members s) =
    option_map (λ ms. object (members_of ms))
    (option_and_then (all_of (member_with f t)) (piece t.members s.first s.count))

-- the value of an item with at most so many levels of lists and objects that hold something
unfoldable pub flat_value : ℕ → Shown → Item → Option Value
flat_value zero t i = value_with (λ j. None) t i
flat_value (suc n) t i = value_with (flat_value n t) t i

-- what an item stands for, where it has a value with so many levels
abbrev pub meaning_at : ℕ → Shown → Item → Value
meaning_at n t i = unwrap_or (flat_value n t i) null

-- the item has a value with so many levels, and it may be a document's
abbrev pub is_flat_at : ℕ → Shown → Item → Bool
is_flat_at n t i = is_some (flat_value n t i) && everywhere is_allowed (meaning_at n t i)

-- the value of an item of a document
abbrev pub meaning : Shown → Item → Value
meaning = meaning_at most_levels

-- the item has a value, and it may be a document's
abbrev pub is_flat : Shown → Item → Bool
is_flat = is_flat_at most_levels

-- one begins with all of the other
pub record BeginsWith {A : Type 0} (whole front : List A) : Type 0 where
  pub rest : List A
  pub is : whole ≡ front ++ rest

-- the later tables have the texts of the earlier ones at their spans, and their items and members
pub record Keeps (before after : Shown) : Type 0 where
  pub texts : (s : Span) (x : List ℕ) → text_at before s ≡ Some x → text_at after s ≡ Some x
  pub items : BeginsWith after.items before.items
  pub members : BeginsWith after.members before.members

-- the same items and members, and the document's text in front of the spare ones
pub record IsOwned (before after : Shown) : Type 0 where
  pub source : after.source ≡ []
  pub spare : after.spare ≡ before.source ++ before.spare
  pub items : after.items ≡ before.items
  pub members : after.members ≡ before.members

-- the later tables hold what the earlier ones hold, where it stands there
pub record Grows (before after : Shown) : Type 0 where
  pub exact : after.exact ≡ before.exact
  pub source : after.source ≡ before.source
  pub spare : BeginsWith after.spare before.spare
  pub items : BeginsWith after.items before.items
  pub members : BeginsWith after.members before.members
