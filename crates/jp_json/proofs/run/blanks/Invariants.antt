use Rattle.std.proofs.Common.{◌-◌, length}
use Rattle.jp_reading.specs.Texts.{is_blank}
use Rattle.jp_json.specs.Private.Runs.{FrontPasses}
use Rattle.jp_json.proofs.run.blanks.Given as goal

abbrev pub invariant-bytes : goal.invariant-bytes
invariant-bytes l = FrontPasses is_blank l.bytes l.end

abbrev pub decreases-bytes : goal.decreases-bytes
decreases-bytes l = length l.bytes - l.end
