-- What single tokens are, of which nothing is kept: for `passing`.
use Rattle.std.proofs.Common.{◌≡◌, ◌∷◌, List, ℕ, None, OnSome, Option, Some, ap, refl}
use Rattle.json.specs.Token.{Token}
use Rattle.jp_decimal.specs.TextValue.{value_of_text}
use Rattle.jp_document.specs.NumberTexts.{numbers_of}
use Rattle.jp_document.specs.NumberValue.{number_value}
use Rattle.jp_document.specs.Value.{text}
use Rattle.jp_flat.specs.Flat.{Shown}
use Rattle.jp_flat.specs.Private.Found.{PassesLeaf}
use Rattle.jp_flat.specs.Private.Reading.{ReadsLeaf}
use Rattle.jp_flat.specs.Private.Taken.{IsHeld}
use Rattle.jp_flat.specs.declared.item.Item.{Item}
use Rattle.jp_flat.proofs.FoundInside.{finds-leaf}
use Rattle.jp_flat.proofs.Leaves.{number-read, text-read}
use Rattle.jp_flat.proofs.Numbers.{value-bounded}

-- what follows, if there is a value
pub on-some : {T P Q : Type 0} (o : Option T) → (P → Q) → OnSome o P → OnSome o Q
on-some None step is = is
on-some (Some x) step is = step is

pub passes-leaf : (k : Token) (i : Item) (t : Shown) → ReadsLeaf k t i → PassesLeaf t k
passes-leaf k i t leaf = λ depth r. finds-leaf depth (k ∷ r) r k t i None refl leaf

pub passes-held : (k : Token) (t : Shown) (s : List ℕ) → k ≡ Token.number s → IsHeld t s
    → PassesLeaf t k
passes-held k t s is x = λ depth r. record {
  value = number_value (value_of_text s);
  reads = number-read depth k r s (number_value (value_of_text s)) is (ap (λ b. numbers_of b s) x.exact);
  short = value-bounded (value_of_text s) x.number x.held;
  found = refl;
}

pub passes-text : (k : Token) (t : Shown) (x : List ℕ) → k ≡ Token.string x → PassesLeaf t k
passes-text k t x is = λ depth r. record {
  value = text x;
  reads = text-read depth k r x is;
  short = refl;
  found = refl;
}
