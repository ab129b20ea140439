use Rattle.std.proofs.Common.{◌≡◌, ◌≤◌, ◌+◌, ◌-◌, drop, length}
use Rattle.jp_json.proofs.Strings.{reach}
use Rattle.jp_json.proofs.scalars.string_end.Given as goal

abbrev pub invariant-characters : goal.invariant-characters
invariant-characters l = record {
  low : l.from ≤ l.at;
  high : l.at ≤ length l.text;
  whole : l.at + reach (drop l.at l.text) ≡ l.from + reach (drop l.from l.text);
}

abbrev pub decreases-characters : goal.decreases-characters
decreases-characters l = length l.text - l.at
