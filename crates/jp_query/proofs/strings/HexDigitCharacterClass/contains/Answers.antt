use Rattle.std.proofs.Common.{◌≤◌, sym, ap, ◌∙◌, arith}
use Rattle.std.specs.Char.{digit_value}
use Rattle.jp_query.specs.Private.HexDigits.{holds_value}
use Rattle.jp_query.proofs.Readers.HexKinds.{is_one_of-value, holds_value-above}
use Rattle.jp_query.proofs.strings.HexDigitCharacterClass.contains.Goals as goal

pub returns-in-Some : goal.returns-in-Some
returns-in-Some c =
    c.holds_value.ensures ∙ ap (holds_value c.args.self) c.in-Some.ensures.value.1
    ∙ sym (is_one_of-value c.args.self c.args.c)

pub returns-in-None : goal.returns-in-None
returns-in-None c =
    let none = c.in-None.ensures.value in
    let above : 16 ≤ digit_value c.args.c = omega (arith, none) in
    sym (is_one_of-value c.args.self c.args.c
    ∙ holds_value-above c.args.self (digit_value c.args.c) above)
