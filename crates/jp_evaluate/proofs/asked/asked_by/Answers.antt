use Rattle.std.proofs.Common.{IfSome, Some, String, Vec, ap, subst, ◌∙◌}
use Rattle.std.specs.declared.alloc.Global.{Global}
use Rattle.jp_tree.specs.declared.tree.Query.{out-Query}
use Rattle.jp_evaluate.proofs.Kept.Queries.{anywhere-asks, items-ask}
use Rattle.jp_evaluate.proofs.Nodelists.Along.{of_segments}
use Rattle.jp_evaluate.specs.Private.Asks.{AskedOf, asks_items}
use Rattle.jp_evaluate.proofs.asked.asked_by.Goals as goal

pub returns-in-Some : goal.returns-in-Some
returns-in-Some c =
    anywhere-asks c.args.query.now.query c.deref.result.now c.in_ok-name.name
    (c.deref.ensures.value ∙ ap (λ q. (out-Query q).segments.items) c.query.ensures.same)
    (ap Some c.in_ok-name.ensures.ok ∙ c.in-Some.ensures)

pub returns-in-Some-2 : goal.returns-in-Some-2
returns-in-Some-2 c =
    let P : Vec (String Global) Global → Type 0 = λ ns.
    AskedOf ns.items (λ p. asks_items p (of_segments c.deref-2.result.now)) in
    let asked : P c.in-Some-2.names = subst (λ o. IfSome o P) c.in-Some-2.is c.in_ok-names.ensures in
    items-ask c.args.query.now.query c.deref-2.result.now c.in-Some-2.names
    (c.deref-2.ensures.value ∙ ap (λ q. (out-Query q).segments.items) c.query.ensures.same)
    asked
