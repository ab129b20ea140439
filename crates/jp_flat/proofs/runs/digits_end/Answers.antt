use Rattle.std.proofs.Common.{◌≡◌, ◌<◌, ◌∙◌, arith, get_or, sym}
use Rattle.std.specs.Char.{digit_value, is_ascii_digit}
use Rattle.std.proofs.lemmas.Bool.Decides.{nat_tests}
use Rattle.std.proofs.lemmas.List.Sums.{prefix_len-drop_yes}
use Rattle.jp_flat.proofs.Digits.{digits_next_from}
use Rattle.jp_flat.proofs.runs.digits_end.Goals as goal

pub digits-preserved : goal.digits-preserved
digits-preserved c =
    let l = c.digits in
    let d = c.args.bytes.now in
    let i = l.invariant in
    let x = c.from-digit.result in
    let digit : digit_value (get_or d l.at 0) ≡ x = grind (arith, nat_tests) in
    let low : x < 10 = grind (arith, nat_tests) in (
      omega (
        arith,
        i.0,
        prefix_len-drop_yes is_ascii_digit d l.at 0 c.digits-test.true
            (sym c.is_ascii_digit.ensures.value ∙ c.if-is_ascii_digit.true),
      ),
      omega (arith, c.digits-test.true),
      omega (arith, i.2),
      digits_next_from d c.args.from l.at l.number x i.2 c.digits-test.true digit low i.3,
    )
