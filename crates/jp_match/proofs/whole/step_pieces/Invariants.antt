use Rattle.std.proofs.Common.{◌≡◌, ◌≤◌, ℕ, false, map, drop, get_or}
use Rattle.jp_iregexp.specs.Tree.{tree, pieces}
use Rattle.jp_match.specs.Bounds.{MakesAtMost}
use Rattle.jp_match.specs.Private.Plain.{unrolled}
use Rattle.jp_match.specs.Private.Sweeps.{nowhere}
use Rattle.jp_match.proofs.Steps.Sweeping.{Swept}
use Rattle.jp_match.proofs.whole.step_pieces.Given as goal

abbrev pub invariant-loop-piece : goal.invariant-loop-piece
invariant-loop-piece l = record {
  swept : Swept (unrolled (pieces (map tree l.parts))) (unrolled (pieces (map tree (drop
      l.piece-index l.parts)))) l.entered l.through l.fn.sweep l.sweep nowhere;
  ahead : (k : ℕ) → l.sweep.at ≤ k
      → get_or l.sweep.marks.items k false ≡ get_or l.fn.sweep.marks.items k false;
  tests : MakesAtMost l.sweep.at l.fn.sweep.tests l.sweep.tests;
}
