use Rattle.std.proofs.Common.{◌-◌, length}
use Rattle.jp_reading.specs.Numbers.{is_digit}
use Rattle.jp_json.specs.Private.Runs.{FrontPasses}
use Rattle.jp_json.proofs.run.digits.Given as goal

abbrev pub invariant-bytes : goal.invariant-bytes
invariant-bytes l = FrontPasses is_digit l.bytes l.end

abbrev pub decreases-bytes : goal.decreases-bytes
decreases-bytes l = length l.bytes - l.end
