-- For `number_of`.
use Rattle.jp_decimal.proofs.NormalForm.{normal_form-right, one-answer}
use Rattle.jp_decimal.specs.NormalForm.{normal_form}
use Rattle.jp_decimal.specs.TextValue.{value_of_text}
use Rattle.jp_decimal.proofs.reading.number_of.Goals as goal

pub returns : goal.returns
returns c = record {
  value = one-answer (value_of_text c.args.bytes.now) c.number_read-number.result (normal_form (value_of_text c.args.bytes.now))
      c.number_read-number.ensures (normal_form-right (value_of_text c.args.bytes.now));
  right = c.number_read-number.ensures;
}
