use Rattle.std.proofs.Common.{◌≡◌, ◌+◌, ◌-◌, ◌≤◌, length, drop}
use Rattle.std.specs.List.{prefix_len}
use Rattle.jp_json.specs.Private.Fronts.{is_plain}
use Rattle.jp_json.proofs.lanes.line_front.Given as goal

abbrev pub invariant-lanes : goal.invariant-lanes
invariant-lanes l =
    (prefix_len is_plain l.bytes ≡ l.end + prefix_len is_plain (drop l.end l.bytes))
    × (l.end ≤ length l.bytes)

abbrev pub decreases-lanes : goal.decreases-lanes
decreases-lanes l = length l.bytes - l.end

abbrev pub invariant-bytes : goal.invariant-bytes
invariant-bytes l =
    (prefix_len is_plain l.bytes ≡ l.end + prefix_len is_plain (drop l.end l.bytes))
    × (l.end ≤ length l.bytes)

abbrev pub decreases-bytes : goal.decreases-bytes
decreases-bytes l = length l.bytes - l.end
