use Rattle.std.proofs.Common.{◌≡◌, ℕ, ◌<◌, false, get_or}
use Rattle.std.specs.Bool.{IsTrue}
use Rattle.jp_iregexp.specs.Class.{class_holds}
use Rattle.jp_match.specs.Private.Beginning.{IsWithin}
use Rattle.jp_match.proofs.first_chars.admit_class.Given as goal

abbrev pub invariant-loop-code : goal.invariant-loop-code
invariant-loop-code l = record {
  fewer : IsWithin l.ruled_out l.fn.ruled_out;
  never : (c : ℕ) → c < l.code → IsTrue (get_or l.ruled_out c false)
      → class_holds l.class.negated l.class.elements.items c ≡ false;
}
