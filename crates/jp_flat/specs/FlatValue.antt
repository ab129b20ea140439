-- Values of documents in tables, wherever they stand (RFC 9535 section 1.1).
use Rattle.std.specs.Prelude.{◌≡◌, ℕ, List, Option, Some, None, option_map}
use Rattle.jp_decimal.specs.declared.numbers.Numbers.{Numbers}
use Rattle.jp_document.specs.Exact.{IsDocumentIn}
use Rattle.jp_document.specs.Location.{Location, Step, step_of, value_at}
use Rattle.jp_document.specs.Value.{Value}
use Rattle.jp_document.specs.declared.location.Step as code
use Rattle.jp_flat.specs.Flat.{meaning, shown}
use Rattle.jp_flat.specs.declared.flat.Flat.{Flat}
use Rattle.jp_flat.specs.declared.flat.Found.{Found}
use Rattle.jp_flat.specs.declared.flat.Found.TheVariants as found
use Rattle.jp_flat.specs.declared.flat_value.FlatValue.{FlatValue}

-- the value of a document in tables
abbrev pub document_in : Flat → Value
document_in f = meaning (shown f.tables) f.root

-- the bytes are a document with such numbers that has this value at the location, or none where
-- there is none
pub record IsValueAt (numbers : Numbers) (bytes : List ℕ) (l : Location) (found : Option Flat)
    : Type 0 where
  pub document : Value
  pub is : IsDocumentIn numbers bytes document
  pub at : value_at document l ≡ option_map document_in found

-- the tables of the value that was found, if there is one
abbrev pub flat_found : Found → Option Flat
flat_found (found.Value f) = Some f
flat_found (found.Nothing room) = None

-- the value that a `FlatValue` lends
abbrev pub lent_flat : FlatValue → Value
lent_flat v = meaning (shown v.tables.now) v.item

-- the step and the value that a step with a value lends
abbrev pub flat_entry : code.Step × FlatValue → Step × Value
flat_entry e = (step_of e.0, lent_flat e.1)
