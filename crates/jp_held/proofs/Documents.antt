-- The value of a document may be a document's, whichever numbers there are: for `Document::parsed`.
use Rattle.std.proofs.Common.{ℕ, List}
use Rattle.jp_decimal.specs.declared.numbers.Numbers.{Numbers}
use Rattle.jp_decimal.specs.declared.numbers.Numbers.TheVariants.{Decimal, Whole}
use Rattle.jp_document.specs.Exact.{IsDocumentIn}
use Rattle.jp_document.specs.Value.{IsDocumentValue, Value}

pub document-valid : (numbers : Numbers) (bytes : List ℕ) (v : Value) → IsDocumentIn numbers bytes v
    → IsDocumentValue v
document-valid Whole bytes v x = x.valid
document-valid Decimal bytes v x = x.valid
