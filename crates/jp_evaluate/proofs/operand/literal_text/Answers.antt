use Rattle.std.proofs.Common.{Some, ap, sym, string_bytes, ◌∙◌}
use Rattle.jp_document.specs.Value.{text}
use Rattle.jp_tree.specs.Views.{literal_of}
use Rattle.jp_evaluate.specs.Nodelist.{literal_value}
use Rattle.jp_evaluate.specs.Private.Meanings.{only_text}
use Rattle.jp_evaluate.proofs.Nodelists.Along.{text-spelled}
use Rattle.jp_evaluate.proofs.operand.literal_text.Goals as goal

pub returns-in-Text : goal.returns-in-Text
returns-in-Text c =
    ap (λ b. Some (text b))
    (sym
    (text-spelled c.as_str.result.now (string_bytes c.in-Text.text) c.as_str.utf8
    c.as_str.ensures.value))
    ∙ sym (ap (λ l. only_text (literal_value (literal_of l))) c.in-Text.is)
