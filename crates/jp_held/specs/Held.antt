-- The value that a document holds.
use Rattle.jp_document.specs.Value.{Value, value_of}
use Rattle.jp_held.specs.declared.document.Document.{Document}

abbrev pub document_of : Document → Value
document_of d = value_of d.json
