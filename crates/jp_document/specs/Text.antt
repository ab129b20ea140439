-- The compact text of a value: JSON (RFC 8259) with no blank space, members in the value's order.
use Rattle.std.specs.Prelude.{ℕ, true, false, List, [], ◌∷◌, ◌++◌, codes}
use Rattle.std.specs.Fmt.{signed_decimal}
use Rattle.std.specs.List.{join_with_byte}
use Rattle.jp_reading.specs.Characters.{closing_brace, closing_bracket, colon, comma, double_quote}
use Rattle.jp_reading.specs.Characters.{opening_brace, opening_bracket}
use Rattle.jp_decimal.specs.NumberText.{number_text}
use Rattle.jp_decimal.specs.declared.number.Number.TheVariants.{Decimal}
use Rattle.jp_document.specs.Spelling.{quoted_in}
use Rattle.jp_document.specs.Value.{Value, null, boolean, whole, decimal, text, list, object}
use Rattle.jp_document.specs.Value.{Items, no_items, item, Members, no_members, member}

-- a text between double quotes
abbrev pub string_text : List ℕ → List ℕ
string_text = quoted_in double_quote

-- `[..]` and `{..}` with `,` between parts and `:` after a name
abbrev mutual
  pub text_of : Value → List ℕ
  text_of null = codes "null"
  text_of (boolean true) = codes "true"
  text_of (boolean false) = codes "false"
  text_of (whole z) = signed_decimal z
  text_of (decimal c e) = number_text (Decimal (record { coefficient = c; exponent = e }))
  text_of (text s) = string_text s
  text_of (list vs) =
      opening_bracket ∷ (join_with_byte comma (item_texts vs) ++ closing_bracket ∷ [])
  text_of (object ms) =
      opening_brace ∷ (join_with_byte comma (member_texts ms) ++ closing_brace ∷ [])

  pub item_texts : Items → List (List ℕ)
  item_texts no_items = []
  item_texts (item v vs) = text_of v ∷ item_texts vs

  pub member_texts : Members → List (List ℕ)
  member_texts no_members = []
  member_texts (member n v ms) = (string_text n ++ colon ∷ text_of v) ∷ member_texts ms
