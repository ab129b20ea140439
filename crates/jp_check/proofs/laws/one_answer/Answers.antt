use Rattle.jp_check.proofs.Alone.{one-answer}
use Rattle.jp_check.proofs.laws.one_answer.Goals as goal

pub returns : goal.returns
returns c = λ profile. one-answer profile c.one_reading.ensures c.one_refusal.ensures
