use Rattle.std.proofs.Common.{◌≡◌, ◌≤◌, length}
use Rattle.jp_flat.specs.Flat.{shown}
use Rattle.jp_flat.specs.Private.Reading.{ReadsLeaves}
use Rattle.jp_flat.proofs.leaf.leaves.Given as goal

abbrev pub invariant-leaves : goal.invariant-leaves
invariant-leaves _ l = record {
  so : ReadsLeaves l.initial.reader.tokens l.reader.tokens (shown l.initial.tables) (shown l.tables);
  text : (l.reader.text ≡ l.tables.text.now) × (l.reader.text ≡ l.initial.reader.text);
  shorter : length l.reader.tokens ≤ length l.initial.reader.tokens;
}

abbrev pub decreases-leaves : goal.decreases-leaves
decreases-leaves _ l = length l.reader.tokens
