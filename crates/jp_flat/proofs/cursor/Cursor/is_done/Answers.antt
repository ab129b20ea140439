use Rattle.std.proofs.Common.{◌≡◌, ◌≤◌, true, ap, length, sym, ◌∙◌, arith}
use Rattle.json.specs.Lex.{may_close}
use Rattle.jp_flat.specs.Private.Tokens.{expected_of}
use Rattle.jp_flat.proofs.Punctuated.{done_there}
use Rattle.jp_flat.proofs.cursor.Cursor.is_done.Goals as goal

pub returns-then-self : goal.returns-then-self
returns-then-self c closes =
    let a = c.self.inside in
    let over : length a.bytes.now ≤ a.point.at = grind arith in
    let may : may_close (expected_of a.point.expected) ≡ true = sym c.may_close.ensures ∙ closes in
    ap (λ r. r.tokens) (sym c.self.view_is) ∙ done_there a.bytes.now a.point over may
