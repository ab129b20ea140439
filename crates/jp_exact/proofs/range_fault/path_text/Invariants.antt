use Rattle.std.proofs.Common.{◌≡◌, ◌++◌, drop, map, string_bytes}
use Rattle.std.specs.List.{flat_map}
use Rattle.jp_document.specs.Location.{owned_step}
use Rattle.jp_document.specs.Path.{path_of, step_text}
use Rattle.jp_exact.proofs.range_fault.path_text.Given as goal

-- what stands there, and the steps to come, is the whole
abbrev pub invariant-loop-step : goal.invariant-loop-step
invariant-loop-step l =
    string_bytes l.text ++ flat_map step_text (map owned_step (drop l.step-index l.location)) ≡
    path_of (map owned_step l.location)
