-- For `push_power`.
use Rattle.std.proofs.Common.{string_bytes}
use Rattle.jp_decimal.specs.NumberText.{pointed, power_text}
use Rattle.jp_decimal.proofs.Begun.{after}
use Rattle.jp_decimal.proofs.writing.push_power.Goals as goal

pub returns-clause-kept : goal.returns-clause-kept
returns-clause-kept c =
    after (string_bytes c.args.text.now) (pointed 1 c.args.digits.now) (power_text c.args.below c.args.power)
    (string_bytes c.push_pointed.new.text) (string_bytes c.push_exponent.new.text)
    c.in_ok-push_pointed.ensures.ok c.push_exponent.ensures.kept
