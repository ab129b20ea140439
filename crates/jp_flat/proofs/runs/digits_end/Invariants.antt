use Rattle.std.proofs.Common.{◌≡◌, ◌+◌, ◌-◌, ◌≤◌, length, drop, take}
use Rattle.std.specs.List.{prefix_len}
use Rattle.std.specs.Char.{is_ascii_digit}
use Rattle.jp_flat.specs.Private.Tokens.{IsDigits}
use Rattle.jp_flat.proofs.runs.digits_end.Given as goal

abbrev pub invariant-digits : goal.invariant-digits
invariant-digits l =
    (l.from + prefix_len is_ascii_digit (drop l.from l.bytes)
    ≡ l.at + prefix_len is_ascii_digit (drop l.at l.bytes)) × (l.at ≤ length l.bytes)
    × (l.from ≤ l.at) × IsDigits (take (l.at - l.from) (drop l.from l.bytes)) l.number

abbrev pub decreases-digits : goal.decreases-digits
decreases-digits l = length l.bytes - l.at
