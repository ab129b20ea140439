use Rattle.std.proofs.Common.{◌≡◌, true, false, sym, ◌∙◌, rules}
use Rattle.std.proofs.Math.Bool.{and-true}
use Rattle.json.specs.Value.{value_view}
use Rattle.jp_document.specs.Value.{everywhere, list_fits, value_of}
use Rattle.jp_reading.proofs.Conjunctions.{and-left}
use Rattle.jp_exact.specs.Defects.{HasExactValue, ReadsAsJson}
use Rattle.jp_exact.proofs.Defects.{document-by, exact_value-of, fault-from}
use Rattle.jp_exact.proofs.reading.exact_value.Goals as goal

pub returns-in-Err-clause-fault : goal.returns-in-Err-clause-fault
returns-in-Err-clause-fault c =
    let bytes = c.args.bytes.now in
    let j = value_view c.in-Some.parsed in
    let text : ReadsAsJson bytes j = search rules in
    fault-from bytes j c.in-Err.fault c.exact_fault.result text c.in-Err.ensures.fault
    c.exact_fault.ensures

pub returns-then-fits-clause-ok : goal.returns-then-fits-clause-ok
returns-then-fits-clause-ok c =
    let bytes = c.args.bytes.now in
    let j = value_view c.in-Some.parsed in
    let v = value_of c.in-Ok-json_of.json in
    let text : ReadsAsJson bytes j = search rules in
    let value : HasExactValue bytes v =
    exact_value-of bytes j v text c.in-Ok-json_of.ensures.value in
    let short : everywhere list_fits v ≡ true =
    and-left _ true (sym c.in-Ok-json_of.ensures.fits ∙ c.if-fits.true) in
    document-by bytes v value c.in-Ok-json_of.ensures.held short

pub returns-clause-fault : goal.returns-clause-fault
returns-clause-fault c =
    let bytes = c.args.bytes.now in
    let j = value_view c.in-Some.parsed in
    let v = value_of c.in-Ok-json_of.json in
    let text : ReadsAsJson bytes j = search rules in
    let value : HasExactValue bytes v =
    exact_value-of bytes j v text c.in-Ok-json_of.ensures.value in
    let long : everywhere list_fits v ≡ false =
    sym (and-true (everywhere list_fits v)) ∙ sym c.in-Ok-json_of.ensures.fits ∙ c.if-fits.false in
    record { value = v; reads = value; held = c.in-Ok-json_of.ensures.held; too_long = long }
