-- For `push_signed`.
use Rattle.std.proofs.Common.{string_bytes, subst}
use Rattle.std.specs.Fmt.{sign_text}
use Rattle.std.specs.Int.{w32}
use Rattle.std.proofs.lemmas.Int.{to_z-of_z}
use Rattle.jp_decimal.specs.Appended.{IsBegun}
use Rattle.jp_decimal.specs.NumberText.{size_text}
use Rattle.jp_decimal.proofs.Begun.{after}
use Rattle.jp_decimal.proofs.writing.push_signed.Goals as goal

pub returns-clause-kept : goal.returns-clause-kept
returns-clause-kept c =
    after (string_bytes c.args.text.now) (sign_text c.args.negative) (size_text c.args.digits.now c.args.exponent)
    (string_bytes c.push_sign.new.text) (string_bytes c.push_size.new.text) c.in_ok-push_sign.ensures.ok
    (subst (λ e. IsBegun (string_bytes c.push_sign.new.text) (size_text c.args.digits.now e) (string_bytes c.push_size.new.text))
    (to_z-of_z w32 c.args.exponent c.ranges.exponent) c.push_size.ensures.kept)
