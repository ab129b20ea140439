use Rattle.std.proofs.Common.{◌≡◌, None, length}
use Rattle.jp_select.specs.Walk.{frames_give, has_failed, rest_of}
use Rattle.jp_select.proofs.descent.Descent.advance.Given as goal

-- the frames that were taken off had nothing to give
abbrev pub invariant-loop-frame : goal.invariant-loop-frame
invariant-loop-frame l = record {
  begun : l.self.first ≡ None;
  rest : frames_give l.self.location.items l.self.frames.items ≡ rest_of l.fn.self;
  same : has_failed l.self ≡ has_failed l.fn.self;
}

abbrev pub decreases-loop-frame : goal.decreases-loop-frame
decreases-loop-frame l = length l.self.frames.items
