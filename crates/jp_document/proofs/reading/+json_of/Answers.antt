use Rattle.std.proofs.Common.{◌≡◌, [], ◌∷◌, ◌++◌, length, sym, ap, ◌∙◌, subst, arith, rules}
use Rattle.std.proofs.lemmas.List.{nil_from_length}
use Rattle.std.specs.Vec.Iter.{into_iter_items}
use Rattle.serde_json.specs.Data as parsed
use Rattle.serde_json.specs.View.{view, items_view, members_view}
use Rattle.jp_document.specs.Document.{IsFirstFraction}
use Rattle.jp_document.specs.Location.{nth}
use Rattle.jp_document.specs.Value.{value_of}
use Rattle.jp_document.specs.declared.value.Member.{Member}
use Rattle.jp_document.specs.declared.location.OwnedStep.TheVariants.{Name, Index}
use Rattle.jp_document.proofs.Readings.ListsFit.{items_fit_more, members_fit_more}
use Rattle.jp_document.proofs.Readings.Faults.{value_fault-within}
use Rattle.jp_document.proofs.Values.{member_of_is}
use Rattle.jp_document.proofs.Readings.Conversion.{ItemsSoFar, items_more, items_stop, items_end}
use Rattle.jp_document.proofs.Readings.Conversion.{MembersSoFar, members_more}
use Rattle.jp_document.proofs.Readings.Conversion.{members_stop, members_end}
use Rattle.jp_document.proofs.reading.+json_of.Goals as goal

pub json_items-loop-item-preserved : goal.json_items-loop-item-preserved
json_items-loop-item-preserved t c =
    let all = c.args.items.items in
    let done = c.loop-item.found.items in
    let rest = into_iter_items c.next.new.self in
    let steps = c.in-Some.ensures.steps in
    let pushed : c.push.new.self.items ≡ done ++ c.in-Ok.json ∷ [] = search rules in
    let so = subst (λ r. ItemsSoFar all r done) steps.0 c.loop-item.invariant.0 in
    let long = c.loop-item.invariant.1 ∙ ap length steps.0 in
    let short = steps.1 in (
      subst (ItemsSoFar all rest) (sym pushed)
          (items_more all rest done c.in-Some.item c.in-Ok.json c.in-Ok.ensures.value so),
      omega arith,
      items_fit_more done _ c.in-Ok.json c.loop-item.fits _ _ pushed c.loop-item.invariant.2
          c.in-Ok.ensures.fits,
    )

pub json_items-returns-in-Err-clause-fault : goal.json_items-returns-in-Err-clause-fault
json_items-returns-in-Err-clause-fault t c =
    let all = c.args.items.items in
    let done = c.loop-item.found.items in
    let rest = into_iter_items c.next.new.self in
    let so = subst (λ r. ItemsSoFar all r done) c.in-Some.ensures.steps.0 c.loop-item.invariant.0 in
    let index : length done ≡ c.len-in-Err.result = search rules in
    value_fault-within (view c.in-Some.item) (parsed.array (items_view all)) c.in-Err.fault
    c.within.result (Index c.len-in-Err.result)
    (λ l first. subst (λ n. IsFirstFraction (parsed.array (items_view all)) (nth n ∷ l)) index
    (items_stop all rest done c.in-Some.item l first so)) c.in-Err.ensures.fault c.within.ensures

pub json_items-returns-clause-value : goal.json_items-returns-clause-value
json_items-returns-clause-value t c =
    let none : into_iter_items c.loop-item.item-iterator ≡ [] =
    nil_from_length _ (sym c.loop-item.invariant.1 ∙ c.in-None.ensures.steps.0) in
    items_end c.args.items.items c.loop-item.found.items
    (subst (λ r. ItemsSoFar c.args.items.items r c.loop-item.found.items) none
    c.loop-item.invariant.0)

pub json_members-loop-name-preserved : goal.json_members-loop-name-preserved
json_members-loop-name-preserved t c =
    let all = c.args.members.entries in
    let done = c.loop-name.found.items in
    let rest = c.next.new.self in
    let m : Member = record { name = c.in-Some.name; value = c.in-Ok.value } in
    let step : c.loop-name.name-iterator ≡ (c.in-Some.name, c.in-Some.member) ∷ rest =
    search rules in
    let pushed : c.push.new.self.items ≡ done ++ m ∷ [] = search rules in
    let so = subst (λ r. MembersSoFar all r done) step c.loop-name.invariant.0 in (
      subst (MembersSoFar all rest) (sym pushed)
          (members_more all rest done (c.in-Some.name, c.in-Some.member) m (value_of c.in-Ok.value)
          (member_of_is m) c.in-Ok.ensures.value so),
      members_fit_more done _ m (value_of c.in-Ok.value) c.loop-name.fits _ _ pushed
          (ap (λ p. p.1) (member_of_is m)) c.loop-name.invariant.1 c.in-Ok.ensures.fits,
    )

pub json_members-returns-in-Err-clause-fault : goal.json_members-returns-in-Err-clause-fault
json_members-returns-in-Err-clause-fault t c =
    let all = c.args.members.entries in
    let done = c.loop-name.found.items in
    let rest = c.next.new.self in
    let step : c.loop-name.name-iterator ≡ (c.in-Some.name, c.in-Some.member) ∷ rest =
    search rules in
    let so = subst (λ r. MembersSoFar all r done) step c.loop-name.invariant.0 in
    value_fault-within (view c.in-Some.member) (parsed.object (members_view all)) c.in-Err.fault
    c.within.result (Name c.in-Some.name)
    (λ l first. members_stop all rest done (c.in-Some.name, c.in-Some.member) l first so)
    c.in-Err.ensures.fault c.within.ensures

pub json_members-returns-clause-value : goal.json_members-returns-clause-value
json_members-returns-clause-value t c =
    let none : c.loop-name.name-iterator ≡ [] = search rules in
    members_end c.args.members.entries c.loop-name.found.items
    (subst (λ r. MembersSoFar c.args.members.entries r c.loop-name.found.items) none
    c.loop-name.invariant.0)
