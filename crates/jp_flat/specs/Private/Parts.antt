-- The parts of lists and objects in tables, and texts.
use Rattle.std.specs.Prelude.{◌≡◌, ◌<◌, ℕ, List, [], Bool, Option, Some, None, false, true, IsUtf8}
use Rattle.std.specs.Prelude.{get_or, length, option_and_then, unwrap_or}
use Rattle.std.specs.Cmp.Lexicographic.{slice_cmp}
use Rattle.std.specs.List.{slice_get}
use Rattle.std.specs.Ordering.{is_eq, nat_cmp}
use Rattle.jp_decimal.specs.NormalForm.{normal_form}
use Rattle.jp_decimal.specs.TextValue.{value_of_text}
use Rattle.jp_decimal.specs.declared.number.Number.{Number}
use Rattle.jp_flat.specs.Flat.{Shown, piece, text_at}
use Rattle.jp_flat.specs.declared.item.Item.{Item}
use Rattle.jp_flat.specs.declared.item.Named.{Named}
use Rattle.jp_flat.specs.declared.item.Span.{Span}

-- the item at a position of the items at a span
abbrev pub item_at : Shown → Span → ℕ → Option Item
item_at t s k = option_and_then (λ xs. slice_get xs k) (piece t.items s.first s.count)

-- the member at a position of the members at a span
abbrev pub member_at : Shown → Span → ℕ → Option Named
member_at t s k = option_and_then (λ ms. slice_get ms k) (piece t.members s.first s.count)

-- the name of a member that has one
abbrev pub name_in : Shown → Named → List ℕ
name_in t m = unwrap_or (text_at t m.name) []

-- the member has that name
abbrev pub is_named : Shown → List ℕ → Named → Bool
is_named t name m = is_eq (slice_cmp nat_cmp name (name_in t m))

-- the member at that place has the name; where there is none, no member has it
abbrev pub NamesAt : Shown → List ℕ → List Named → Option ℕ → Type 0
NamesAt t name ms (Some i) = (m : Named) → is_named t name (get_or ms i m) ≡ true
NamesAt t name ms None = (i : ℕ) (m : Named) → i < length ms → is_named t name (get_or ms i m) ≡ false

-- at the span stands a text in UTF-8
pub record HoldsText (t : Shown) (s : Span) : Type 0 where
  pub text : List ℕ
  pub at : text_at t s ≡ Some text
  pub utf8 : IsUtf8 text

-- the number that the characters at the span write, None where there are none or it can't be held
abbrev pub numeral_at : Shown → Span → Option Number
numeral_at t s = option_and_then (λ x. normal_form (value_of_text x)) (text_at t s)

-- all that stands at a span of items
abbrev pub items_at : Shown → Span → List Item
items_at t s = unwrap_or (piece t.items s.first s.count) []

-- all that stands at a span of members
abbrev pub members_at : Shown → Span → List Named
members_at t s = unwrap_or (piece t.members s.first s.count) []
