-- Which bytes are a document whose numbers are kept exactly.
use Rattle.std.specs.Prelude.{◌≡◌, ◌&&◌, ℕ, Bool, true, false, List, Some, IsUtf8, is_some}
use Rattle.json.specs.Json as json
use Rattle.jp_decimal.specs.declared.numbers.Numbers.{Numbers}
use Rattle.jp_decimal.specs.declared.numbers.Numbers.TheVariants.{Whole, Decimal}
use Rattle.jp_document.specs.Document.{IsDocument}
use Rattle.jp_document.specs.Value.{Value, IsDocumentValue}
use Rattle.jp_document.specs.NumberTexts.{exact_number, whole_number}
use Rattle.jp_document.specs.OfJson.{json_in, value_of_json}

-- the bytes are a document, whose value is v
pub record IsExactDocument (bytes : List ℕ) (v : Value) : Type 0 where
  pub utf8 : IsUtf8 bytes
  pub parsed : json.Json
  pub reads : json_in bytes ≡ Some parsed
  pub holds : value_of_json exact_number parsed ≡ Some v
  pub valid : IsDocumentValue v

-- the same, with numbers exactly or whole ones alone
abbrev pub IsDocumentBy : Bool → List ℕ → Value → Type 0
IsDocumentBy false = IsDocument
IsDocumentBy true = IsExactDocument

-- the bytes are a document with such numbers, whose value is v
abbrev pub IsDocumentIn : Numbers → List ℕ → Value → Type 0
IsDocumentIn Whole = IsDocument
IsDocumentIn Decimal = IsExactDocument

-- ---- laws

-- each number in it is written as a whole number of 64 bits
abbrev mutual
  pub has_whole_numbers : json.Json → Bool
  has_whole_numbers json.null = true
  has_whole_numbers (json.boolean b) = true
  has_whole_numbers (json.number s) = is_some (whole_number s)
  has_whole_numbers (json.string s) = true
  has_whole_numbers (json.array js) = have_whole_numbers js
  has_whole_numbers (json.object ms) = hold_whole_numbers ms

  pub have_whole_numbers : json.Items → Bool
  have_whole_numbers json.no_items = true
  have_whole_numbers (json.item j js) = has_whole_numbers j && have_whole_numbers js

  pub hold_whole_numbers : json.Members → Bool
  hold_whole_numbers json.no_members = true
  hold_whole_numbers (json.member n j ms) = has_whole_numbers j && hold_whole_numbers ms

-- a document is an exact one, with the same value
abbrev pub DocumentIsExact : Type 0
DocumentIsExact = (bytes : List ℕ) (v : Value) → IsDocument bytes v → IsExactDocument bytes v

-- an exact document whose numbers are whole is a document, with the same value
abbrev pub WholeIsDocument : Type 0
WholeIsDocument = (bytes : List ℕ) (v : Value) (x : IsExactDocument bytes v)
    → has_whole_numbers x.parsed ≡ true → IsDocument bytes v
