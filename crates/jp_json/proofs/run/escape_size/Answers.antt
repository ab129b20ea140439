use Rattle.std.proofs.Common.{sym, ◌∙◌, ap}
use Rattle.jp_json.specs.Grammar.{is_hex_digit}
use Rattle.jp_json.proofs.Leading.{escape-leads}
use Rattle.jp_json.proofs.run.escape_size.Goals as goal

pub returns-then-is_hex_digit-4 : goal.returns-then-is_hex_digit-4
returns-then-is_hex_digit-4 c =
    escape-leads c.args.bytes.now c.if-bytes-ge6.true c.if-bytes-ne92.false c.if-bytes-eq117.true
    (ap is_hex_digit (sym c.from-then-bytes-eq117.ensures) ∙ sym c.is_hex_digit.ensures ∙ c.if-is_hex_digit.true)
    (ap is_hex_digit (sym c.from-then-is_hex_digit.ensures) ∙ sym c.is_hex_digit-then-is_hex_digit.ensures
    ∙ c.if-is_hex_digit-2.true)
    (ap is_hex_digit (sym c.from-then-is_hex_digit-2.ensures) ∙ sym c.is_hex_digit-then-is_hex_digit-2.ensures
    ∙ c.if-is_hex_digit-3.true)
    (ap is_hex_digit (sym c.from-then-is_hex_digit-3.ensures) ∙ sym c.is_hex_digit-then-is_hex_digit-3.ensures
    ∙ c.if-is_hex_digit-4.true)
