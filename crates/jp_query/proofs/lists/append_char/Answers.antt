use Rattle.std.proofs.Common.{ap, rules, ◌∙◌}
use Rattle.std.specs.Char.{IsScalar}
use Rattle.std.specs.Str.{chars}
use Rattle.std.specs.String.{string_bytes}
use Rattle.std.proofs.lemmas.Str.{IsUtf8-string_bytes}
use Rattle.jp_reading.proofs.Texts.Chars.{chars_push}
use Rattle.jp_query.proofs.lists.append_char.Goals as goal

pub returns : goal.returns
returns c =
    let scalar : IsScalar c.args.c = search rules in
    ap chars c.in_ok-push.ensures.bytes
    ∙ chars_push (string_bytes c.args.text.now) c.args.c (IsUtf8-string_bytes c.args.text.now)
    scalar
