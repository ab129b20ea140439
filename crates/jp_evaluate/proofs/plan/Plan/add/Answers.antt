use Rattle.std.proofs.Common.{subst, sym}
use Rattle.jp_evaluate.specs.Plan.{Serves}
use Rattle.jp_evaluate.proofs.plan.Plan.add.Goals as goal

pub returns-clause-others : goal.returns-clause-others
returns-clause-others c = λ q serves.
    c.in_ok-self.ensures.others q (subst (Serves q) (sym c.replace-portion.ensures.value) serves)
