use Rattle.std.proofs.Common.{[], ◌∷◌}
use Rattle.std.specs.Char.{encode_utf8}
use Rattle.std.proofs.lemmas.List.{append-nil}
use Rattle.jp_canon.proofs.Written.{pushed_str}
use Rattle.jp_canon.proofs.writer.Writer.character.Goals as goal

pub returns : goal.returns
returns c =
    pushed_str c.self.inside.text c.push.new.self c.args.self.now (encode_utf8 c.args.c)
    (c.args.c ∷ []) c.push.result c.self.view_is c.push.ensures.bytes
    (append-nil (encode_utf8 c.args.c))
