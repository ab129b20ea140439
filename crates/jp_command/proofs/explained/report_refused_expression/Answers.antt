use Rattle.std.proofs.Common.{◌≡◌, inr, string_bytes, subst, rules}
use Rattle.jp_command.specs.Output.{AppendsPrefix}
use Rattle.jp_command.proofs.Streams.{prefix-either}
use Rattle.jp_command.proofs.explained.report_refused_expression.Goals as goal

pub returns-in-Ok : goal.returns-in-Ok
returns-in-Ok g c =
    let bytes : c.as_bytes.result.now ≡ string_bytes c.in-Ok.text = search rules in
    let before = g.E.Writer.contents c.args.faults.now in
    let after = g.E.Writer.contents c.write_all.new.output in
    inr (
      string_bytes c.in-Ok.text,
      c.in-Ok.ensures,
      subst (λ text. AppendsPrefix before after text) bytes
          (prefix-either _ _ c.as_bytes.result.now c.write_all.result (search rules)
          c.write_all.ensures.prefix),
    )
