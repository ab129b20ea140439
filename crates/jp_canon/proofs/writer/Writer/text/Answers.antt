use Rattle.std.specs.Str.{chars}
use Rattle.std.proofs.lemmas.Str.{encodes-chars}
use Rattle.jp_canon.proofs.Written.{pushed_str}
use Rattle.jp_canon.proofs.writer.Writer.text.Goals as goal

pub returns : goal.returns
returns c =
    pushed_str c.self.inside.text c.push_str.new.self c.args.self.now c.args.text.now
    (chars c.args.text.now) c.push_str.result c.self.view_is c.push_str.ensures.bytes
    (encodes-chars c.args.text.now c.utf8.text)
