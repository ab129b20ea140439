use Rattle.std.proofs.Common.{◌≤◌, ◌-◌, length}
use Rattle.jp_json.proofs.scalars.number_end.Given as goal

abbrev pub invariant-digits : goal.invariant-digits
invariant-digits l = record {
  low : l.from ≤ l.at;
  high : l.at ≤ length l.text;
}

abbrev pub decreases-digits : goal.decreases-digits
decreases-digits l = length l.text - l.at
