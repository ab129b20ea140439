use Rattle.std.proofs.Common.{◌≡◌, ◌||◌, ◌<◌, ◌≤◌, ℕ, false, length, get_or}
use Rattle.jp_match.proofs.offsets.unite.Given as goal

abbrev pub invariant-loop-i : goal.invariant-loop-i
invariant-loop-i l = record {
  same_length : length l.offsets.items ≡ length l.fn.offsets.items;
  done : (k : ℕ) → k < l.i → get_or l.offsets.items k false ≡ (get_or l.fn.offsets.items k false ||
      get_or l.other k false);
  left : (k : ℕ) → l.i ≤ k → get_or l.offsets.items k false ≡ get_or l.fn.offsets.items k false;
}
