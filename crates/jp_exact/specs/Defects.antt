-- Why bytes are no exact document.
use Rattle.std.specs.Prelude.{◌≡◌, ◌≢◌, ℕ, Bool, true, false, List, Some, string_bytes, IsUtf8}
use Rattle.std.specs.declared.cmp.Ordering.TheVariants.{Less}
use Rattle.json.specs.Json as json
use Rattle.jp_decimal.specs.Number.{is_decimal}
use Rattle.jp_decimal.specs.declared.numbers.Numbers.{Numbers}
use Rattle.jp_decimal.specs.declared.numbers.Numbers.TheVariants.{Whole, Decimal}
use Rattle.jp_document.specs.Document.{IsDocumentFault}
use Rattle.jp_document.specs.Location.{Location, location_cmp, value_at}
use Rattle.jp_document.specs.NumberTexts.{exact_number}
use Rattle.jp_document.specs.OfJson.{json_in, value_of_json}
use Rattle.jp_document.specs.Path.{path_of}
use Rattle.jp_document.specs.Value.{Value, decimal, everywhere, list_fits}
use Rattle.jp_document.specs.declared.fault.DocumentFault.{DocumentFault}
use Rattle.jp_document.specs.declared.fault.DocumentFault.TheVariants.{NotJson, NotWhole, NumberRange}
use Rattle.jp_document.specs.declared.fault.DocumentFault.TheVariants.{ListTooLong, NoMemory}

-- the bytes are UTF-8, and a JSON text (RFC 8259) of at most 127 levels
pub record ReadsAsJson (bytes : List ℕ) (parsed : json.Json) : Type 0 where
  pub utf8 : IsUtf8 bytes
  pub reads : json_in bytes ≡ Some parsed

-- the bytes are a JSON text, and v is its value, each number as the text writes it
pub record HasExactValue (bytes : List ℕ) (v : Value) : Type 0 where
  pub parsed : json.Json
  pub text : ReadsAsJson bytes parsed
  pub holds : value_of_json exact_number parsed ≡ Some v

-- ---- the first number that can't be held

-- v is no number, or one that can be held: whole and of 64 bits, or of at most 38 digits with an
-- exponent from -1,000,000 to 1,000,000
abbrev pub is_held : Value → Bool
is_held (decimal c e) = is_decimal c e
is_held v = true

-- at l stands a number that can't be held
abbrev pub IsUnheldAt : Value → Location → Type 0
IsUnheldAt v l = (w : Value) × (value_at v l ≡ Some w) × (is_held w ≡ false)

-- at l stands the first such number in document order
pub record IsFirstUnheld (v : Value) (l : Location) : Type 0 where
  pub there : IsUnheldAt v l
  pub least : (m : Location) → IsUnheldAt v m → location_cmp m l ≢ Less

-- the bytes have a value, and the path is that of the first number in it that can't be held
pub record HasUnheldNumber (bytes path : List ℕ) : Type 0 where
  pub value : Value
  pub reads : HasExactValue bytes value
  pub location : Location
  pub first : IsFirstUnheld value location
  pub spelled : path ≡ path_of location

-- the bytes have a value, each number in it can be held, and some list in it is too long
pub record HasTooLongList (bytes : List ℕ) : Type 0 where
  pub value : Value
  pub reads : HasExactValue bytes value
  pub held : everywhere is_held value ≡ true
  pub too_long : everywhere list_fits value ≡ false

-- ---- what is wrong with bytes

-- What is wrong with bytes that are no exact document: no JSON text, a first number that can't be
-- held, at this path, or a list that is too long.
pub data ExactDefect : Type 0 where
  not_json : ExactDefect
  number_range : List ℕ → ExactDefect
  list_too_long : ExactDefect

-- the bytes are no exact document, by that defect
abbrev pub HasExactDefect : List ℕ → ExactDefect → Type 0
HasExactDefect bytes not_json = (parsed : json.Json) → ReadsAsJson bytes parsed → ⊥
HasExactDefect bytes (number_range path) = HasUnheldNumber bytes path
HasExactDefect bytes list_too_long = HasTooLongList bytes

-- why the bytes are no exact document; running out of memory says nothing of them, and that a number
-- is not whole is no reason
abbrev pub IsExactFault : List ℕ → DocumentFault → Type 0
IsExactFault bytes NotJson = HasExactDefect bytes not_json
IsExactFault bytes (NumberRange path) = HasExactDefect bytes (number_range (string_bytes path))
IsExactFault bytes ListTooLong = HasExactDefect bytes list_too_long
IsExactFault bytes NoMemory = Unit {0}
IsExactFault bytes (NotWhole path) = ⊥

-- why the bytes are no document with such numbers
abbrev pub IsDocumentFaultIn : Numbers → List ℕ → DocumentFault → Type 0
IsDocumentFaultIn Whole = IsDocumentFault
IsDocumentFaultIn Decimal = IsExactFault
