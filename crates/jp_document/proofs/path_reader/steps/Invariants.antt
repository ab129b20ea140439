use Rattle.std.proofs.Common.{◌≡◌, length, map}
use Rattle.jp_reading.specs.Views.{with_prefix}
use Rattle.jp_document.specs.Location.{owned_step}
use Rattle.jp_document.specs.Private.PathReading.{read_rule}
use Rattle.jp_document.specs.Private.PathRules as rules
use Rattle.jp_document.proofs.path_reader.steps.Given as goal

abbrev pub invariant-steps : goal.invariant-steps
invariant-steps l =
    read_rule rules.steps l.initial.reader
    ≡ with_prefix (map owned_step l.steps.items) (read_rule rules.steps l.reader)

abbrev pub decreases-steps : goal.decreases-steps
decreases-steps l = length l.reader.rest
