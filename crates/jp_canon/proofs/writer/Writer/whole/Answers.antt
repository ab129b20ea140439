use Rattle.std.proofs.Common.{◌≡◌, ap, sym, ◌∙◌, rules}
use Rattle.std.specs.Fmt.{signed_decimal}
use Rattle.std.specs.Str.{encode_utf8_all}
use Rattle.std.proofs.lemmas.Str.{encodes-IsAscii}
use Rattle.jp_canon.proofs.Written.{pushed_str}
use Rattle.jp_canon.proofs.writer.Writer.whole.Goals as goal

pub returns : goal.returns
returns c =
    let text : c.format.result.now ≡ signed_decimal c.args.number = search rules in
    pushed_str c.self.inside.text c.push_str.new.self c.args.self.now c.format.result.now
    (signed_decimal c.args.number) c.push_str.result c.self.view_is c.push_str.ensures.bytes
    (ap encode_utf8_all (sym text) ∙ encodes-IsAscii c.format.result.now c.format.ensures.ascii)
