use Rattle.std.proofs.Common.{◌≡◌, None, length}
use Rattle.jp_document.specs.Value.{Value}
use Rattle.jp_select.specs.Steps.{Takes}
use Rattle.jp_evaluate.specs.Private.Due.{Pays, walk_cost}
use Rattle.jp_evaluate.specs.Private.Walk.{LeadsNowhereAt, Keeps, Skips, pending, walk_frames}
use Rattle.jp_evaluate.proofs.walk.Walk.next_offer.Given as goal

-- the frames that were taken off had no more choices that lead somewhere
abbrev pub invariant-loop-self : goal.invariant-loop-self
invariant-loop-self g l = record {
  begun : l.self.first ≡ None;
  keeps : Keeps l.fn.self l.self;
  same : Skips LeadsNowhereAt (pending g.V.Lent.meaning l.segments l.fn.self) (pending g.V.Lent.meaning l.segments l.self);
  costs : (d : Value) → Pays (walk_cost g.V.Lent.meaning l.segments d l.fn.self)
      (walk_cost g.V.Lent.meaning l.segments d l.self) l.fn.steps l.steps;
  taken : Takes l.fn.steps l.steps;
}

abbrev pub decreases-loop-self : goal.decreases-loop-self
decreases-loop-self g l = length (walk_frames l.self)
