use Rattle.std.proofs.Common.{◌≡◌, ◌<◌, ◌≤◌, ℕ, false, length, get_or}
use Rattle.jp_iregexp.specs.Class.{class_holds}
use Rattle.jp_match.proofs.Sets.Shift.{counted_to, shifted}
use Rattle.jp_match.proofs.offsets.shift.Given as goal

abbrev pub invariant-loop-i : goal.invariant-loop-i
invariant-loop-i l =
    let enters = shifted (class_holds l.class.negated l.class.elements.items) l.text l.fn.offsets.items
    in
    record {
      same_length : length l.offsets.items ≡ length l.fn.offsets.items;
      carried : l.arrives ≡ enters l.i;
      done : (k : ℕ) → k < l.i → get_or l.offsets.items k false ≡ enters k;
      left : (k : ℕ) → l.i ≤ k → get_or l.offsets.items k false ≡ get_or l.fn.offsets.items k false;
      counted : l.tests ≡ counted_to l.fn.offsets.items l.fn.tests l.i;
      kept : l.fn.tests ≤ l.tests;
    }
