use Rattle.std.proofs.Common.{◌<◌}
use Rattle.jp_json.proofs.scalars.unit_at.Given as goal

abbrev pub invariant-loop-digit : goal.invariant-loop-digit
invariant-loop-digit l = l.unit < 65536
