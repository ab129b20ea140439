use Rattle.std.proofs.Common.{◌≡◌, ◌&&◌, ◌<◌, ◌≤◌, ℕ, false, length, get_or}
use Rattle.jp_match.specs.Private.Copies.{enters}
use Rattle.jp_match.proofs.copies.Copies.move_on.Given as goal

abbrev pub invariant-loop-copy : goal.invariant-loop-copy
invariant-loop-copy l = record {
  same_length : length l.marks ≡ length l.fn.marks;
  through : l.through ≡ enters l.self.is_optional l.entered l.fn.marks l.copy;
  done : (k : ℕ) → k < l.copy → get_or l.marks k false ≡ (enters l.self.is_optional l.entered
      l.fn.marks k && l.holds);
  left : (k : ℕ) → l.copy ≤ k → get_or l.marks k false ≡ get_or l.fn.marks k false;
}
