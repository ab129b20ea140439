use Rattle.std.proofs.Common.{◌≡◌, true, rules, sym, ◌∙◌}
use Rattle.serde_json.specs.View.{view}
use Rattle.jp_document.specs.Document.{IsReading}
use Rattle.jp_document.specs.Value.{everywhere, list_fits, value_of}
use Rattle.jp_document.proofs.Readings.Defects.{document_by}
use Rattle.jp_reading.proofs.Conjunctions.{and-left}
use Rattle.jp_document.proofs.reading.parsed_value.Goals as goal

pub returns-then-fits-clause-ok : goal.returns-then-fits-clause-ok
returns-then-fits-clause-ok c =
    let reads : IsReading c.args.bytes.now (view c.in-Ok-from_str.parsed) = search rules in
    let short : everywhere list_fits (value_of c.in-Ok-json_of.json) ≡ true =
    and-left _ true (sym c.in-Ok-json_of.ensures.fits ∙ c.if-fits.true) in
    document_by c.args.bytes.now (view c.in-Ok-from_str.parsed) (value_of c.in-Ok-json_of.json) reads
    c.in-Ok-json_of.ensures.value short
