use Rattle.std.proofs.Common.{◌-◌, length}
use Rattle.jp_evaluate.specs.Lent.{way_of}
use Rattle.jp_command.specs.Private.Fronts.{HasPathText}
use Rattle.jp_command.proofs.front.Front.follow.Given as goal

-- the values so far are spelled
abbrev pub invariant-loop-step : goal.invariant-loop-step
invariant-loop-step g l = HasPathText l.self l.nodes

abbrev pub decreases-loop-step : goal.decreases-loop-step
decreases-loop-step g l = length (way_of l.nodes) - l.self.count
