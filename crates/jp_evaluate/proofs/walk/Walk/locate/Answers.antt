use Rattle.std.proofs.Common.{◌≡◌, ◌++◌, [], ◌∷◌, map}
use Rattle.std.proofs.Common.{ap₂, take, ap, sym, ◌∙◌}
use Rattle.std.proofs.lemmas.List.{take_all, take_more}
use Rattle.jp_document.specs.Location.{step_of}
use Rattle.jp_evaluate.specs.Private.Walk.{reached_at, steps_of}
use Rattle.jp_evaluate.proofs.Walks.Choices.{reached-push, reached-top}
use Rattle.jp_evaluate.proofs.walk.Walk.locate.Goals as goal

pub loop-frame-preserved : goal.loop-frame-preserved
loop-frame-preserved g c =
    let fs = c.deref-frame-items.result.now in
    let i = c.loop-frame.frame-index in
    let f = c.frame-item.result in
    c.in_ok-push_step.ensures
    ∙ ap (λ l. l ++ steps_of f.reached.step) c.loop-frame.invariant
    ∙ sym (reached-push [] (take i fs) f)
    ∙ ap (reached_at [])
    (ap (λ g. take i fs ++ g ∷ []) c.frame-item.is
    ∙ sym (take_more fs i f c.loop-frame-test.true))

pub returns : goal.returns
returns g c =
    let w = c.args.self.now in
    let fs = c.deref-frame-items.result.now in
    let below : map step_of c.loop-frame.location.items ≡ reached_at [] w.below.items =
    c.loop-frame.invariant
    ∙ ap (reached_at [])
    (take_all c.loop-frame.frame-index fs c.loop-frame-test.false
    ∙ c.deref-frame-items.ensures.value) in
    c.in_ok-push_step-3.ensures
    ∙ ap (λ l. l ++ steps_of c.args.reached.now.step)
    (c.in_ok-push_step-2.ensures
    ∙ ap₂ (λ l o. l ++ steps_of o) below c.last_step.ensures
    ∙ sym (reached-top [] w.below.items w.top))
