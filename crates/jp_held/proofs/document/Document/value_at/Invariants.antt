use Rattle.std.proofs.Common.{◌≡◌, drop, map}
use Rattle.jp_held.specs.Held.{document_of}
use Rattle.jp_document.specs.DocumentValue.{lent_value}
use Rattle.jp_document.specs.Location.{owned_step, value_at}
use Rattle.jp_held.proofs.document.Document.value_at.Given as goal

-- the steps to come lead from here where all steps lead from the root
abbrev pub invariant-loop-step : goal.invariant-loop-step
invariant-loop-step l =
    value_at (lent_value l.found) (map owned_step (drop l.step-index l.steps))
    ≡ value_at (document_of l.self) (map owned_step l.steps)
