use Rattle.std.proofs.Common.{IfOk, subst, sym}
use Rattle.jp_document.specs.Exact.{IsDocumentIn}
use Rattle.jp_document.specs.Value.{value_of}
use Rattle.jp_exact.proofs.reading.read_value.Goals as goal

pub returns-in-Whole-clause-ok : goal.returns-in-Whole-clause-ok
returns-in-Whole-clause-ok c =
    subst (λ n. IfOk c.parsed_value.result (λ j. IsDocumentIn n c.args.bytes.now (value_of j)))
    (sym c.in-Whole.is) c.parsed_value.ensures.ok

pub returns-in-Decimal-clause-ok : goal.returns-in-Decimal-clause-ok
returns-in-Decimal-clause-ok c =
    subst (λ n. IfOk c.exact_value.result (λ j. IsDocumentIn n c.args.bytes.now (value_of j)))
    (sym c.in-Decimal.is) c.exact_value.ensures.ok
