use Rattle.std.proofs.Common.{◌||◌, ap, is_eq, map, not, Some, subst, sym, ◌∙◌}
use Rattle.jp_document.specs.Location.{location_cmp, step_of}
use Rattle.jp_evaluate.specs.Private.LocationSet.{has}
use Rattle.jp_evaluate.specs.Private.Selecting.{TellsNew}
use Rattle.jp_evaluate.specs.Private.Walk.{reached_node}
use Rattle.jp_evaluate.proofs.Walks.Selects.{tells}
use Rattle.jp_evaluate.proofs.selecting.Selecting.is_new.Goals as goal

pub returns-in_ok-insert-in-Some-clause-new : goal.returns-in_ok-insert-in-Some-clause-new
returns-in_ok-insert-in-Some-clause-new g c =
    let seen = c.in-Some.seen in
    let put = c.in_ok-insert-in-Some.ensures in
    let n = reached_node g.V.Lent.meaning c.args.self.now.walk c.args.reached.now in
    let added = c.in_ok-insert-in-Some.field-0 in
    let at = ap (map step_of) c.deref-in-Some.ensures.value ∙ c.in_ok-location-in-Some.ensures in
    subst (λ s. TellsNew s n added (Some c.insert.new.self)) (sym c.in-Some.is)
    (tells seen c.insert.new.self n added (put.new ∙ ap (λ k. not (has seen k)) at)
    (λ l. put.more l ∙ ap (λ k. is_eq (location_cmp l k) || has seen l) at))
