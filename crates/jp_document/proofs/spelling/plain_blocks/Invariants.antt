use Rattle.std.proofs.Common.{◌≡◌, ◌≤◌, ◌-◌, ◌∷◌, [], All, length, take}
use Rattle.jp_document.specs.Spelling.{spelling}
use Rattle.jp_document.proofs.spelling.plain_blocks.Given as goal

abbrev pub invariant-lanes : goal.invariant-lanes
invariant-lanes l = record {
  within : l.plain ≤ length l.text;
  plain : All (λ b. spelling l.quote b ≡ b ∷ []) (take l.plain l.text);
}

abbrev pub decreases-lanes : goal.decreases-lanes
decreases-lanes l = length l.text - l.plain
