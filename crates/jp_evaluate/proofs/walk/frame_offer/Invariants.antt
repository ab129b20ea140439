use Rattle.std.proofs.Common.{◌≡◌, ◌-◌, length}
use Rattle.jp_select.specs.Steps.{Takes}
use Rattle.jp_evaluate.specs.Private.Due.{Pays}
use Rattle.jp_evaluate.specs.Private.Walk.{LeadsNowhere, Skips, frame_choices, segments_left, turns}
use Rattle.jp_evaluate.proofs.walk.frame_offer.Given as goal

-- the choices that were passed over lead nowhere
abbrev pub invariant-loop-turn : goal.invariant-loop-turn
invariant-loop-turn g l = record {
  reached : l.frame.reached ≡ l.fn.frame.reached;
  same : Skips LeadsNowhere (frame_choices g.V.Lent.meaning l.segments l.fn.frame)
      (frame_choices g.V.Lent.meaning l.segments l.frame);
  paid : Pays (length (frame_choices g.V.Lent.meaning l.segments l.fn.frame))
      (length (frame_choices g.V.Lent.meaning l.segments l.frame)) l.fn.steps l.steps;
  taken : Takes l.fn.steps l.steps;
}

abbrev pub decreases-loop-turn : goal.decreases-loop-turn
decreases-loop-turn g l = length (turns (segments_left l.segments l.frame.reached.done)) - l.frame.turn
