use Rattle.std.proofs.Common.{◌≤◌, ◌<◌, ◌-◌, get_or, length, IfSome}
use Rattle.jp_json.proofs.fractions.number_at.Given as goal

abbrev pub invariant-text : goal.invariant-text
invariant-text l = record {
  within : l.at ≤ length l.text;
  found : IfSome l.found (λ s. (s.start ≤ s.end) × (s.end ≤ length l.text));
  ascii : IfSome l.found (λ s. (s.start < length l.text) × (get_or l.text s.start 0 < 128));
}

abbrev pub decreases-text : goal.decreases-text
decreases-text l = length l.text - l.at
