use Rattle.std.proofs.Common.{◌≡◌, ◌++◌, ◌-◌, ap, length, min, rules, suc, take, ◌∙◌}
use Rattle.jp_command.specs.Limits.{document_limit}
use Rattle.jp_lines.proofs.Kept.{kept-more, on_added}
use Rattle.jp_lines.proofs.passing.keep.Goals as goal

pub returns : goal.returns
returns c =
    let old = c.args.line.now.items in
    let bytes = c.args.bytes.now in
    let count : c.min.result ≡ min (length bytes) (suc document_limit - length old) = search rules in
    on_added c.extend_from_slice.result c.extend_from_slice.new.self.items old _
    c.extend_from_slice.ensures.items
    (λ items begun is. items ∙ ap (λ n. old ++ take n bytes) count ∙ kept-more old begun bytes is)
