use Rattle.std.proofs.Common.{◌≡◌, [], map, take}
use Rattle.jp_document.specs.Location.{step_of}
use Rattle.jp_evaluate.specs.Private.Walk.{reached_at}
use Rattle.jp_evaluate.proofs.walk.Walk.locate.Given as goal

-- the steps of the frames so far
abbrev pub invariant-loop-frame : goal.invariant-loop-frame
invariant-loop-frame g l =
    map step_of l.location.items ≡ reached_at [] (take l.frame-index l.frame-items)
