use Rattle.std.proofs.Common.{◌≡◌, ◌<◌, true, ap, get_or, length, refl, sym, ◌∙◌, arith}
use Rattle.json.specs.Json.{read_key}
use Rattle.json.specs.Lex.{may_close}
use Rattle.jp_flat.specs.Private.Tokens.{expected_of}
use Rattle.jp_flat.proofs.Punctuated.{gives_end_object}
use Rattle.jp_flat.proofs.cursor.Cursor.take_end_object.Goals as goal

pub returns-then-may_close-clause-takes : goal.returns-then-may_close-clause-takes
returns-then-may_close-clause-takes c =
    let d = c.self.inside.bytes.now in
    let from = c.self.inside.point in
    let room : from.at < length d = grind arith in
    let byte : get_or d from.at 0 ≡ 125 = grind arith in
    let closes : may_close (expected_of from.expected) ≡ true = grind arith in
    ap read_key
    (ap (λ r. r.tokens) (sym c.self.view_is)
    ∙ gives_end_object d from c.passed-point.result room byte closes c.passed-point.ensures.goes refl)
