-- Values of documents, wherever they stand (RFC 9535 section 1.1).
use Rattle.jp_document.specs.Location.{Step, step_of}
use Rattle.jp_document.specs.Value.{Value, value_of}
use Rattle.jp_document.specs.declared.document_value.DocumentValue.{DocumentValue}
use Rattle.jp_document.specs.declared.location.Step as code

-- the value that a `DocumentValue` lends
abbrev pub lent_value : DocumentValue → Value
lent_value v = value_of v.json.now

-- the step and the value that a step with a value lends
abbrev pub lent_entry : code.Step × DocumentValue → Step × Value
lent_entry e = (step_of e.0, lent_value e.1)
