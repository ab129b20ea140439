use Rattle.std.proofs.Common.{◌≡◌, ◌≤◌, ◌-◌, length, take}
use Rattle.std.specs.List.{flat_map}
use Rattle.jp_document.specs.Spelling.{spelling}
use Rattle.jp_document.proofs.spelling.plain_len.Given as goal

abbrev pub invariant-bytes : goal.invariant-bytes
invariant-bytes l = record {
  within : l.plain ≤ length l.text;
  plain : flat_map (spelling l.quote) (take l.plain l.text) ≡ take l.plain l.text;
}

abbrev pub decreases-bytes : goal.decreases-bytes
decreases-bytes l = length l.text - l.plain
