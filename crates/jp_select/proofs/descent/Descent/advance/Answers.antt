use Rattle.std.proofs.Common.{[], ◌∷◌, ◌++◌, map, ap, ap₂, sym, ◌∙◌}
use Rattle.std.proofs.lemmas.List.{append-nil}
use Rattle.jp_document.specs.DocumentValue.{lent_value}
use Rattle.jp_document.specs.Location.{step_of}
use Rattle.jp_document.specs.Node.{node_at, node_of}
use Rattle.jp_select.specs.Walk.{child_subtrees, frames_give}
use Rattle.jp_select.proofs.Locations.{nodes-children}
use Rattle.jp_select.proofs.Walks.{child_gives, entered, frame_ends, frames_left, node_left}
use Rattle.jp_select.proofs.descent.Descent.advance.Goals as goal

pub returns-in-Some-clause-gives : goal.returns-in-Some-clause-gives
returns-in-Some-clause-gives c =
    let n = node_of c.in-Some.node in
    node_left _ _ _ c.in-Some.ensures.value ∙ nodes-children n.location n.value
    ∙ sym
    (ap (λ t. n ∷ t)
    (frames_left _ _ _ _ _ c.take.ensures.after c.in_ok-self.ensures.items
    c.in_ok-self-2.ensures.items
    ∙ append-nil (child_subtrees (node_at _ _) 0)
    ∙ ap₂ (λ l v. child_subtrees (node_at l v) 0) c.location.ensures
    c.document_value-value.ensures))

pub returns-in-Some-child-clause-gives : goal.returns-in-Some-child-clause-gives
returns-in-Some-child-clause-gives c =
    let s = c.loop-frame.self in
    sym c.loop-frame.invariant.rest
    ∙ ap (frames_give s.location.items) c.in-Some-pop.ensures.items
    ∙ child_gives s.location.items c.pop.new.self.items c.in-Some-pop.frame c.in-Some-child.step
    c.in-Some-child.value c.in-Some-child.ensures.entry
    ∙ sym
    (ap₂ (λ n t. n ∷ t)
    (c.of.ensures
    ∙ ap (λ steps. node_at (map step_of steps) (lent_value c.in-Some-child.value))
    (c.in_ok-location.ensures.items ∙ c.deref.ensures.value ∙ c.in_ok-push-3.ensures.items))
    (frames_left _ _ _ _ _ c.loop-frame.invariant.begun c.in_ok-push-3.ensures.items
    (c.in_ok-push-2.ensures.items
    ∙ ap (λ fs. fs ++ entered c.in-Some-child.value ∷ []) c.in_ok-push.ensures.items)))

pub loop-frame-preserved : goal.loop-frame-preserved
loop-frame-preserved c =
    let was = c.loop-frame.self.location in
    record {
      begun = c.loop-frame.invariant.begun;
      rest =
          frame_ends was.len was.items c.pop-in-Some-pop.new.self.items c.pop.new.self.items
          c.in-Some-pop.frame was.ok.0 c.pop-in-Some-pop.ensures.rest
          c.in_default-child.ensures.entry
          ∙ ap (frames_give was.items) (sym c.in-Some-pop.ensures.items)
          ∙ c.loop-frame.invariant.rest;
      same = c.loop-frame.invariant.same;
    }
