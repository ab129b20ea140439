use Rattle.jp_evaluate.proofs.Plans.{answers-portion}
use Rattle.jp_evaluate.proofs.plan.Plan.read_into.Goals as goal

pub returns-clause-ok : goal.returns-clause-ok
returns-clause-ok c = λ q serves.
    answers-portion c.args.numbers q c.args.self.now.portion c.args.bytes.now c.in_ok-read.read serves
    c.in_ok-read.ensures.ok
