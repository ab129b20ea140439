use Rattle.std.proofs.Common.{inl, inr}
use Rattle.jp_json.proofs.Leading.{whole-digits, fraction-digits, power-digits}
use Rattle.jp_json.proofs.run.more_digits.Goals as goal

pub returns-in-Whole : goal.returns-in-Whole
returns-in-Whole c =
    elim c.in-Whole.is [
      | inl is ↦ rw is (whole-digits c.args.bytes.now c.digits.result c.digits.ensures)
      | inr others ↦
          elim others [
            | inl is ↦ rw is (fraction-digits c.args.bytes.now c.digits.result c.digits.ensures)
            | inr is ↦ rw is (power-digits c.args.bytes.now c.digits.result c.digits.ensures)
          ]
    ]
