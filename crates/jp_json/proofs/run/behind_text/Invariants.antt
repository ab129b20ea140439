use Rattle.std.proofs.Common.{length}
use Rattle.std.specs.Prelude.{IsUtf8}
use Rattle.jp_json.specs.Private.Runs.{IsBehindText}
use Rattle.jp_json.proofs.run.behind_text.Given as goal

abbrev pub invariant-escapes : goal.invariant-escapes
invariant-escapes l = record { run : IsBehindText l.text l.rest; utf8 : IsUtf8 l.rest }

abbrev pub decreases-escapes : goal.decreases-escapes
decreases-escapes l = length l.rest
