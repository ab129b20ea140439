use Rattle.std.proofs.Common.{◌≡◌, subst, rules}
use Rattle.jp_command.specs.Line.{words_line}
use Rattle.jp_command.specs.Output.{AppendsPrefix}
use Rattle.jp_command.proofs.Streams.{prefix-either}
use Rattle.jp_command.proofs.exit.refuse_encoding.Goals as goal

pub returns : goal.returns
returns g c =
    let line : c.as_bytes.result.now ≡ words_line = search rules in
    let before = g.E.Writer.contents c.args.faults.now in
    let after = g.E.Writer.contents c.write_all.new.output in
    subst (λ text. AppendsPrefix before after text) line
    (prefix-either _ _ c.as_bytes.result.now c.write_all.result (search rules)
    c.write_all.ensures.prefix)
