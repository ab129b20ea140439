use Rattle.std.proofs.Common.{◌∙◌, ap}
use Rattle.std.specs.Str.{chars}
use Rattle.std.proofs.lemmas.Str.{encodes-chars}
use Rattle.jp_document.specs.Path.{quoted}
use Rattle.jp_canon.proofs.Written.{pushed, quoted-encode}
use Rattle.jp_canon.proofs.writer.Writer.quote.Goals as goal

pub returns : goal.returns
returns c =
    pushed c.self.inside.text c.push_quote.new.out c.args.self.now (quoted c.args.text.now)
    (quoted (chars c.args.text.now)) c.push_quote.result c.self.view_is c.push_quote.ensures.ok
    (quoted-encode (chars c.args.text.now) ∙ ap quoted (encodes-chars c.args.text.now c.utf8.text))
