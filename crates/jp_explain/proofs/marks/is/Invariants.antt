use Rattle.std.proofs.Common.{◌≡◌, drop, length}
use Rattle.std.specs.Str.{bytes_eq}
use Rattle.jp_explain.proofs.marks.is.Given as goal

abbrev pub invariant-loop-i : goal.invariant-loop-i
invariant-loop-i l = record {
  lengths : length l.text ≡ length l.word-2;
  whole : bytes_eq (drop l.i l.text) (drop l.i l.word-2) ≡ bytes_eq l.text l.word-2;
}
