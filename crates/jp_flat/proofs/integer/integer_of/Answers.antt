use Rattle.std.proofs.Common.{◌≡◌, drop, true, false, sym, ap, ◌∙◌}
use Rattle.std.proofs.Common.{arith, rules, take_all, length-drop}
use Rattle.fast_float.specs.Text.{scan}
use Rattle.serde_json.specs.Read.{number_from}
use Rattle.jp_flat.proofs.Rounds.{from_zero_text, below_zero_text}
use Rattle.jp_flat.proofs.integer.integer_of.Goals as goal

pub returns-in_ok-below_zero-clause-written : goal.returns-in_ok-below_zero-clause-written
returns-in_ok-below_zero-clause-written c =
    let s = c.args.bytes.now in
    let parts : c.scan.result ≡ scan (drop 1 s) =
    c.scan.ensures.parts ∙ ap scan (take_all _ (drop 1 s) (omega (arith, length-drop 1 s))) in
    below_zero_text s c.in_ok-below_zero.field-0 _ (sym c.if-has_minus.ensures.value)
    (ap (number_from true) (sym parts) ∙ c.in_ok-below_zero.ensures) (search rules)

pub returns-in_ok-from_zero-clause-written : goal.returns-in_ok-from_zero-clause-written
returns-in_ok-from_zero-clause-written c =
    let s = c.args.bytes.now in
    from_zero_text s c.in_ok-from_zero.field-0 _ (sym c.if-has_minus.ensures.value)
    (ap (number_from false) (sym c.scan-else-has_minus.ensures.parts)
    ∙ c.in_ok-from_zero.ensures) (search rules)
