use Rattle.std.proofs.Common.{◌≡◌, ◌+◌, ◌≤◌, get_or, length, sym, subst, refl, arith}
use Rattle.json.specs.Text.{plain}
use Rattle.jp_flat.specs.Private.Escapes.{IsEscape}
use Rattle.jp_flat.proofs.Undone.{lettered, numbered}
use Rattle.jp_flat.proofs.escapes.escape.Goals as goal

pub returns-then-letter-eq117 : goal.returns-then-letter-eq117
returns-then-letter-eq117 c =
    let d = c.args.bytes.now in
    let at = c.args.at in
    let within : at + 2 ≤ length d = grind arith in
    let slash : get_or d at 0 ≡ 92 = grind arith in
    let letter : get_or d (at + 1) 0 ≡ 117 = grind arith in
    numbered d at _ _ within slash letter c.in_ok-character.ensures

pub returns : goal.returns
returns c =
    let d = c.args.bytes.now in
    let at = c.args.at in
    let within : at + 2 ≤ length d = grind arith in
    let slash : get_or d at 0 ≡ 92 = grind arith in
    let short = c.in_ok-byte.ensures in
    subst (λ x. IsEscape d plain at x (at + 2)) (sym c.from.ensures)
    (lettered d at (get_or d (at + 1) 0) c.in_ok-byte.byte within slash refl short.ascii.1
    short.ascii.0 (sym short.value))
