-- Numbers that are not whole, where they are taken.
use Rattle.std.specs.Prelude.{◌≡◌, ℕ, true, List, Some}
use Rattle.jp_decimal.specs.NormalForm.{normal_form}
use Rattle.jp_decimal.specs.TextValue.{value_of_text}
use Rattle.jp_decimal.specs.declared.number.Number.{Number}
use Rattle.jp_document.specs.Value.{Value, everywhere}
use Rattle.jp_flat.specs.Private.Bounded.{is_bounded}
use Rattle.jp_flat.specs.Asked.{is_leaf}
use Rattle.jp_flat.specs.Flat.{Shown, flat_value}
use Rattle.jp_document.specs.NumberTexts.{numbers_of}
use Rattle.jp_flat.specs.Private.Reading.{with_items}
use Rattle.jp_flat.specs.declared.item.Item.{Item}

-- the tables take decimals, and the number with these characters can be held
pub record IsHeld (t : Shown) (s : List ℕ) : Type 0 where
  pub exact : t.exact ≡ true
  pub number : Number
  pub held : normal_form (value_of_text s) ≡ Some number

-- the number with these characters is taken as the value of the item, whatever items the tables hold
pub record IsTaken (t : Shown) (s : List ℕ) (i : Item) : Type 0 where
  pub value : Value
  pub taken : numbers_of t.exact s ≡ Some value
  pub short : everywhere is_bounded value ≡ true
  pub alone : is_leaf value ≡ true
  pub means : (n : ℕ) (items : List Item) → flat_value n (with_items t items) i ≡ Some value
