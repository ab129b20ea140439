-- What the reader of normalized paths does with a rule, and with a whole text.
use Rattle.std.specs.Prelude.{Bool, if◌then◌else◌}
use Rattle.jp_reading.specs.Outcome.{State, Outcome, took, stuck, ◌>>=◌, is_end}
use Rattle.jp_reading.specs.RuleReading.{nothing, read}
use Rattle.jp_document.specs.Location.{Location}
use Rattle.jp_document.specs.Private.PathRules.{nesting, PathRule, path}

-- what a rule reads
abbrev pub read_rule : {u : Bool} {A : Type 0} → PathRule u A → State → Outcome A
read_rule r p = read (nothing nesting) r p

-- a whole path: the text ends after it
unfoldable pub path_at : State → Outcome Location
path_at p = read_rule path p >>= λ l q. if is_end q then took l q else stuck q
