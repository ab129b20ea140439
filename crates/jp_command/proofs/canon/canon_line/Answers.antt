use Rattle.std.proofs.Common.{◌≡◌, ◌++◌, ap, codes, sym, ◌∙◌, string_bytes, rules}
use Rattle.std.proofs.lemmas.Str.{IsUtf8-string_bytes, encodes-chars}
use Rattle.std.specs.Str.{encode_utf8_all}
use Rattle.jp_command.proofs.canon.canon_line.Goals as goal

pub returns : goal.returns
returns c =
    let pushed : string_bytes c.push.new.self ≡ string_bytes c.in_ok-line.line ++ codes "\n" =
    search rules in
    pushed
    ∙ ap (λ text. text ++ codes "\n")
    (sym (encodes-chars (string_bytes c.in_ok-line.line) (IsUtf8-string_bytes c.in_ok-line.line))
    ∙ ap encode_utf8_all c.in_ok-line.ensures)
