use Rattle.std.proofs.Common.{arith}
use Rattle.jp_evaluate.proofs.Walks.WaySums.{children-last, no_children, none_left}
use Rattle.jp_evaluate.proofs.Walks.WaySums.{places-push}
use Rattle.jp_evaluate.specs.Private.Tally.{inside}
use Rattle.jp_evaluate.proofs.tally.push_children.Goals as goal

pub loop-place-preserved : goal.loop-place-preserved
loop-place-preserved g c = λ v h stand.
    let m = g.V.Lent.meaning in
    let before = c.loop-place.invariant v h stand in
    let last = children-last m v h c.loop-place.children.entries c.pop_last.new.self.entries _ c.in-Some.place
    c.in-Some.ensures.removal before.0 in
    let more = places-push m h c.loop-place.places.items c.push.new.self.items c.in-Some.place
    c.in_ok-push.ensures.items in
    (last.0, omega (arith, before.1, last.1))

pub returns : goal.returns
returns g c = λ v h stand.
    let left = c.loop-place.invariant v h stand in
    let none = no_children (inside v h) c.loop-place.children
    (none_left c.loop-place.children.entries
    (λ more. let never = c.in_default.ensures.variant.1 more in cc)) in
    omega (arith, left.1)
