use Rattle.std.proofs.Common.{◌≡◌, ◌+◌, get_or, true, sym, subst, arith}
use Rattle.std.proofs.lemmas.Bool.Decides.{nat_tests}
use Rattle.json.specs.Text.{after_high, is_low_surrogate}
use Rattle.jp_flat.specs.Private.Escapes.{IsEscape}
use Rattle.jp_flat.proofs.Undone.{second-half}
use Rattle.jp_flat.proofs.escapes.surrogate_pair.Goals as goal

pub returns : goal.returns
returns c =
    let d = c.args.bytes.now in
    let at = c.args.at in
    let low = c.in_ok-low.low in
    let slash : get_or d at 0 ≡ 92 = grind arith in
    let letter : get_or d (at + 1) 0 ≡ 117 = grind arith in
    let is : is_low_surrogate low ≡ true = grind (arith, nat_tests) in
    subst (λ x. IsEscape d (after_high c.args.high) at x (at + 6))
    (sym c.in_ok-character.ensures.value.1)
    (second-half d at c.args.high low slash letter c.in_ok-low.ensures is)
