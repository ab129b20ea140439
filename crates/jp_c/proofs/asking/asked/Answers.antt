use Rattle.std.proofs.Common.{Some, option_map, subst, sym}
use Rattle.jp_c.specs.Limit.{Within}
use Rattle.jp_c.specs.Private.Askers.{Asks, IsAskedOutcome}
use Rattle.jp_c.proofs.asking.asked.Goals as goal

pub returns-in-Some : goal.returns-in-Some
returns-in-Some c =
    subst (λ k. Asks (λ o. Within c.args.wanted.limit (IsAskedOutcome c.args.wanted.form c.args.wanted.from c.args.wanted.count c.args.given o))
    (option_map (λ b. b.value) k) (Some c.asked_of_box.new.kept.value) c.asked_of_box.result.0
    c.asked_of_box.result.1)
    (sym c.in-Some.is) c.asked_of_box.ensures
