use Rattle.std.proofs.Common.{Some, sym, ap, ◌∙◌}
use Rattle.jp_document.specs.Value.{list_length, value_of}
use Rattle.jp_document.proofs.Values.{list_length-of}
use Rattle.jp_document.proofs.document_value.DocumentValue.list_length.Goals as goal

pub returns-in-List : goal.returns-in-List
returns-in-List c = ap Some c.len.ensures
    ∙ sym (ap (λ j. list_length (value_of j)) c.in-List.is ∙ list_length-of c.in-List.items)
