use Rattle.std.proofs.Common.{◌≡◌, ◌≤◌, ◌+◌, ◌-◌, ◌<◌, true, Some, take, drop, get_or, length, refl, sym, subst, arith}
use Rattle.json.specs.Token.{number}
use Rattle.json.specs.Word.{after_number}
use Rattle.jp_flat.specs.Private.Tokens.{GivesToken}
use Rattle.jp_flat.proofs.Punctuated.{gives_literal, is_number, number-there, whole-part}
use Rattle.jp_flat.proofs.lexing.number.Goals as goal

pub returns-clause-gives : goal.returns-clause-gives
returns-clause-gives _ c =
    let d = c.args.bytes.now in
    let from = c.args.from in
    let first = c.past_minus-first.result in
    let end = c.digits_end-end.result.0 in
    let some : first < end = grind arith in
    let room : first < length d = omega (arith, some, c.digits_end-end.ensures.within) in
    let whole_one : c.is_whole.result ≡ true = grind arith in
    let zero : get_or d first 0 ≡ 48 → end ≡ first + 1 =
    λ byte. c.is_whole.ensures.zero whole_one byte in
    let goes = c.in-Some.ensures in
    let whole : after_number (drop from.at d) ≡ Some (drop end d) =
    number-there d from.at end end end
    (whole-part d from.at first end c.past_minus-first.ensures.minus c.digits_end-end.ensures.end
    some room zero) goes.ends.point goes.ends.power in
    let within : from.at ≤ end = omega (arith, some, c.past_minus-first.ensures.within) in
    let s = take (end - from.at) (drop from.at d) in
    subst (λ k. GivesToken d from k c.in-Some.point) (sym c.whole.ensures.token)
    (gives_literal d s (number s) from c.in-Some.point end
    (is_number d from.at end within whole goes.ends.word) c.requires.begins within refl goes.ends.word
    goes.goes)
