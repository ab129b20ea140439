use Rattle.std.proofs.Common.{◌∙◌, [], ◌∷◌, Some, ap, arith, map, refl, sym}
use Rattle.jp_select.proofs.Stepping.{takes_then}
use Rattle.jp_evaluate.specs.Private.Walk.{LeadsNowhereAt, frame_choices, offered, pending, step_to}
use Rattle.jp_evaluate.specs.declared.walk.Walk.{Walk}
use Rattle.jp_evaluate.proofs.Walks.Choices.{frame_left, frame_next, frames_alone}
use Rattle.std.specs.List.{sum_by}
use Rattle.std.proofs.lemmas.List.Sums.{sum_by-cons}
use Rattle.jp_evaluate.specs.Private.Due.{choice_cost, walk_cost}
use Rattle.jp_evaluate.proofs.Walks.Costs.{frames_cost, frames-cost, skips-cost, top-cost}
use Rattle.jp_evaluate.proofs.Walks.Paying.{pays-as, pays-beside, pays-then}
use Rattle.jp_evaluate.proofs.Walks.Kept.{keeps_all, keeps-left, keeps_then}
use Rattle.jp_evaluate.proofs.Walks.Skipping.{skips-same}
use Rattle.jp_evaluate.proofs.walk.Walk.next_offer.Goals as goal

pub loop-self-preserved : goal.loop-self-preserved
loop-self-preserved g c =
    let m = g.V.Lent.meaning in
    let all = c.args.segments.now in
    let w = c.take_up.new.self in
    let v = c.leave.new.self in
    let f = c.in-Some-top.frame in
    let begun = c.take_up.ensures.first ∙ c.loop-self.invariant.begun in
    let rest =
    skips-same LeadsNowhereAt (pending m all c.args.self.now) (pending m all c.loop-self.self) (pending m all w)
    c.loop-self.invariant.same
    (sym (frames_alone m all w c.loop-self.self begun c.loop-self.invariant.begun c.take_up.ensures.frames)) in
    let left = c.leave.ensures.first ∙ begun in
    record {
      begun = left;
      keeps =
          keeps_then c.args.self.now w v
          (keeps_then c.args.self.now c.loop-self.self w c.loop-self.invariant.keeps
          (keeps_all c.loop-self.self w (omega (arith, c.take_up.ensures.kept))
          (ap (map step_to) c.take_up.ensures.frames)))
          (keeps-left w v f c.in-Some-top.is c.leave.ensures.frames c.leave.ensures.kept);
      same =
          frame_left m all (pending m all c.args.self.now) w v f begun left rest
          c.in-Some-top.is c.leave.ensures.frames
          (rw c.in_default-2.is at c.in_ok-offer.ensures.gives);
      costs = λ d.
          let same = ap (sum_by (λ x. choice_cost d x.1))
          (frames_alone m all w c.loop-self.self begun c.loop-self.invariant.begun c.take_up.ensures.frames) in
          let top = top-cost m all d w f begun c.in-Some-top.is in
          let below = frames-cost m all d v w.below.items left c.leave.ensures.frames in
          pays-then c.loop-self.invariant.taken (c.loop-self.invariant.costs d)
          (pays-beside (walk_cost m all d v) (omega arith) (omega arith)
          (pays-as (skips-cost d (frame_choices m all f) [] (rw c.in_default-2.is at c.in_ok-offer.ensures.gives))
          (rw c.in_default-2.is at c.in_ok-offer.ensures.pays)));
      taken = takes_then c.loop-self.invariant.taken c.frame_offer.ensures.takes;
    }

pub returns-in-Some-2-clause-gives : goal.returns-in-Some-2-clause-gives
returns-in-Some-2-clause-gives g c =
    let m = g.V.Lent.meaning in
    let all = c.args.segments.now in
    let w = c.take_up.new.self in
    let f = c.in-Some-top.frame in
    let h = c.frame_offer.new.frame in
    let begun = c.take_up.ensures.first ∙ c.loop-self.invariant.begun in
    let rest =
    skips-same LeadsNowhereAt (pending m all c.args.self.now) (pending m all c.loop-self.self) (pending m all w)
    c.loop-self.invariant.same
    (sym (frames_alone m all w c.loop-self.self begun c.loop-self.invariant.begun c.take_up.ensures.frames)) in
    let v : Walk g.row.V.Denot =
    record { first = w.first; top = Some h; below = w.below; kept = w.kept } in
    frame_next m all (pending m all c.args.self.now) w v f begun begun rest c.in-Some-top.is h
    (offered m all c.in-Some-2.offer) refl refl
    c.frame_offer.ensures.reached (rw c.in-Some-2.is at c.in_ok-offer.ensures.gives)

pub returns-in-Some-2-clause-pays : goal.returns-in-Some-2-clause-pays
returns-in-Some-2-clause-pays g c = λ d.
    let m = g.V.Lent.meaning in
    let all = c.args.segments.now in
    let w = c.take_up.new.self in
    let f = c.in-Some-top.frame in
    let h = c.frame_offer.new.frame in
    let begun = c.take_up.ensures.first ∙ c.loop-self.invariant.begun in
    let v : Walk g.row.V.Denot =
    record { first = w.first; top = Some h; below = w.below; kept = w.kept } in
    let same = ap (sum_by (λ x. choice_cost d x.1))
    (frames_alone m all w c.loop-self.self begun c.loop-self.invariant.begun c.take_up.ensures.frames) in
    let top = top-cost m all d w f begun c.in-Some-top.is in
    let now = top-cost m all d v h begun refl in
    let o = offered m all c.in-Some-2.offer in
    let sum = sum_by-cons (choice_cost d) o (frame_choices m all h) in
    pays-then c.loop-self.invariant.taken (c.loop-self.invariant.costs d)
    (pays-beside (frames_cost m all d w.below.items) (omega arith) (omega arith)
    (pays-as (skips-cost d (frame_choices m all f) (o ∷ frame_choices m all h)
    (rw c.in-Some-2.is at c.in_ok-offer.ensures.gives)) (rw c.in-Some-2.is at c.in_ok-offer.ensures.pays)))
