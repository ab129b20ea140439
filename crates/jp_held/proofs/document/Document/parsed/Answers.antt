use Rattle.jp_document.specs.Value.{value_of}
use Rattle.jp_held.proofs.Documents.{document-valid}
use Rattle.jp_held.proofs.document.Document.parsed.Goals as goal

pub invariant_of-result : goal.invariant_of-result
invariant_of-result c = record {
  sound = document-valid c.args.numbers c.args.bytes.now (value_of c.in_ok-json.json)
      c.in_ok-json.ensures.ok;
}
