-- Each rule of paths leaves a shorter text: for the loops over characters and over steps.
use Rattle.std.proofs.Common.{true}
use Rattle.jp_reading.specs.RuleReading.{nothing}
use Rattle.jp_reading.proofs.States.Progress.{Progress}
use Rattle.jp_reading.proofs.Rules.Progress.{goes}
use Rattle.jp_document.specs.Private.PathReading.{read_rule}
use Rattle.jp_document.specs.Private.PathRules.{nesting, PathRule}

pub path_rule-progress : {A : Type 0} (r : PathRule true A) → Progress (read_rule r)
path_rule-progress r p = goes (nothing nesting) (λ o q. tt) r p
