use Rattle.std.proofs.Common.{option_map, subst, sym}
use Rattle.jp_c.specs.Asking.{IsAskDocumentOutcome}
use Rattle.jp_c.specs.Limit.{Within}
use Rattle.jp_c.specs.Private.Askers.{Asks}
use Rattle.jp_c.proofs.asking.asked_of_other.Goals as goal

pub returns-in-Some : goal.returns-in-Some
returns-in-Some c =
    let w = c.args.wanted in
    subst (λ other. Asks (λ k. Within w.limit (IsAskDocumentOutcome w.form w.from w.count k other))
    (option_map (λ b. b.value) c.args.kept.now) (option_map (λ b. b.value) c.asked.new.kept) c.asked.result.0
    c.asked.result.1)
    (sym c.in-Some.ensures.some) c.asked.ensures
