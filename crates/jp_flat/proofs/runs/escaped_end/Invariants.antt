use Rattle.std.proofs.Common.{◌≡◌, ◌-◌, ◌≤◌, length, drop}
use Rattle.json.specs.Lex.{in_string, lex}
use Rattle.jp_flat.proofs.runs.escaped_end.Given as goal

abbrev pub invariant-escapes : goal.invariant-escapes
invariant-escapes l = record {
  same : lex in_string (drop l.first l.bytes) ≡ lex in_string (drop l.at l.bytes);
  after : l.first ≤ l.at;
  within : l.at ≤ length l.bytes;
}

abbrev pub decreases-escapes : goal.decreases-escapes
decreases-escapes l = length l.bytes - l.at
