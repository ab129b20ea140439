use Rattle.std.proofs.Common.{◌+◌, ◌/◌, length, take}
use Rattle.std.specs.List.{sum_by}
use Rattle.jp_document.specs.Location.{step_of}
use Rattle.jp_select.specs.Steps.{Counts, Takes}
use Rattle.jp_evaluate.specs.Private.Compared.{name_steps}
use Rattle.jp_evaluate.proofs.compared.take_location.Given as goal

-- those for its length and the names so far
abbrev pub invariant-loop-step : goal.invariant-loop-step
invariant-loop-step l = record {
  takes : Takes l.fn.steps l.steps;
  counts : Counts (length l.location / 4 + sum_by (λ s. name_steps (step_of s)) (take l.step-index l.location))
      l.fn.steps l.steps;
}
