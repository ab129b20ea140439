use Rattle.std.proofs.Common.{◌≡◌, ◌≤◌, ◌-◌, Some, take, drop, refl, arith}
use Rattle.json.specs.Token.{number}
use Rattle.json.specs.Word.{after_number}
use Rattle.jp_flat.proofs.Punctuated.{gives_literal, is_number, number-there}
use Rattle.jp_flat.proofs.lexing.numeral.Goals as goal

pub returns-clause-gives : goal.returns-clause-gives
returns-clause-gives c =
    let d = c.args.bytes.now in
    let from = c.args.from in
    let end = c.in_ok-end.end in
    let goes = c.in_ok-next.ensures in
    let parts : after_number (drop from.at d) ≡ Some (drop end d) =
    number-there d from.at c.args.whole c.in_ok-point.point end c.requires.whole
    c.in_ok-point.ensures.after c.in_ok-end.ensures.after in
    let within : from.at ≤ end =
    omega (arith, c.requires.inside.0, c.in_ok-point.ensures.within.0, c.in_ok-end.ensures.within.0) in
    let s = take (end - from.at) (drop from.at d) in
    gives_literal d s (number s) from c.in_ok-next.next end
    (is_number d from.at end within parts goes.ends.word) c.requires.begins within refl
    goes.ends.word goes.goes
