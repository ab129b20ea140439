-- What becomes of the text of a number, in each mode.
use Rattle.std.specs.Prelude.{ℕ, Bool, true, false, List, Option, Some, option_and_then}
use Rattle.serde_json.specs.Data.{number as number_data}
use Rattle.serde_json.specs.Read.{number_of}
use Rattle.jp_decimal.specs.TextValue.{value_of_text}
use Rattle.jp_document.specs.Document.{value_of_data}
use Rattle.jp_document.specs.NumberValue.{number_value}
use Rattle.jp_document.specs.Value.{Value}

-- the whole number of 64 bits that the characters write, as `serde_json` reads numbers
abbrev pub whole_number : List ℕ → Option Value
whole_number s = option_and_then (λ n. value_of_data (number_data n)) (number_of s)

-- the number that the characters write
abbrev pub exact_number : List ℕ → Option Value
exact_number s = Some (number_value (value_of_text s))

-- numbers as they are taken, exactly or whole numbers alone
abbrev pub numbers_of : Bool → List ℕ → Option Value
numbers_of false = whole_number
numbers_of true = exact_number
