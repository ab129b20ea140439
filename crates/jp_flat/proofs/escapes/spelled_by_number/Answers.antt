use Rattle.std.proofs.Common.{◌≡◌, ◌+◌, true, sym, subst, arith}
use Rattle.std.proofs.lemmas.Bool.Decides.{nat_tests}
use Rattle.json.specs.Text.{after_u, is_high_surrogate}
use Rattle.jp_flat.specs.Private.Escapes.{IsEscape}
use Rattle.jp_flat.proofs.Undone.{alone, first-half}
use Rattle.jp_flat.proofs.escapes.spelled_by_number.Goals as goal

pub returns-then-unit-lt56320 : goal.returns-then-unit-lt56320
returns-then-unit-lt56320 c =
    let high : is_high_surrogate c.in_ok-unit.unit ≡ true = grind (arith, nat_tests) in
    first-half c.args.bytes.now c.args.from c.in_ok-unit.unit _ _ c.in_ok-unit.ensures high
    c.in_ok-character.ensures

pub returns : goal.returns
returns c =
    let value = c.in_ok-character-2.ensures.value in
    subst (λ x. IsEscape c.args.bytes.now after_u c.args.from x (c.args.from + 4)) (sym value.1)
    (alone c.args.bytes.now c.args.from c.in_ok-unit.unit c.in_ok-unit.ensures value.0)
