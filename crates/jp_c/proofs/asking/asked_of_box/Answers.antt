use Rattle.std.proofs.Common.{Some, subst}
use Rattle.jp_c.specs.Limit.{Within}
use Rattle.jp_c.specs.Private.Askers.{Asks, IsAskedOutcome}
use Rattle.jp_c.proofs.asking.asked_of_box.Goals as goal

pub returns : goal.returns
returns c =
    subst (λ k. Asks (λ o. Within c.args.wanted.limit (IsAskedOutcome c.args.wanted.form c.args.wanted.from c.args.wanted.count c.args.given o))
    (Some k) (Some c.asked_of.new.kept) c.asked_of.result.0 c.asked_of.result.1)
    c.as_mut.ensures.value c.asked_of.ensures
