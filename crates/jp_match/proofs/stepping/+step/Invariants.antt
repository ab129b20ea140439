use Rattle.std.proofs.Common.{◌-◌, suc, map, drop}
use Rattle.jp_iregexp.specs.Tree.{tree, branches, pieces}
use Rattle.jp_match.specs.Private.Plain.{unrolled, between, at_least}
use Rattle.jp_match.specs.Private.Sweeps.{IsSize, at_start, nowhere}
use Rattle.jp_match.proofs.Steps.Sweeping.{Swept}
use Rattle.jp_match.proofs.stepping.+step.Given as goal

abbrev pub invariant-step_either-loop-branch : goal.invariant-step_either-loop-branch
invariant-step_either-loop-branch l = Swept (unrolled (branches (map tree l.parts)))
    (unrolled (branches (map tree (drop l.branch-index l.parts)))) l.entered
    (at_start l.entered) l.fn.sweep l.sweep l.ended

abbrev pub invariant-step_sequence-loop-piece : goal.invariant-step_sequence-loop-piece
invariant-step_sequence-loop-piece l = Swept (unrolled (pieces (map tree l.parts)))
    (unrolled (pieces (map tree (drop l.piece-index l.parts)))) l.entered l.through l.fn.sweep
    l.sweep nowhere

abbrev pub invariant-step_copies-loop-copies : goal.invariant-step_copies-loop-copies
invariant-step_copies-loop-copies l = record {
  swept : Swept (between (unrolled (tree l.inner)) l.least l.most)
      (between (unrolled (tree l.inner)) (l.least - l.copies) (l.most - l.copies)) l.entered
      l.through l.fn.sweep l.sweep l.ended;
  sized : IsSize (unrolled (tree l.inner)) l.size.positions l.size.rounds;
}

abbrev pub invariant-step_at_least-loop : goal.invariant-step_at_least-loop
invariant-step_at_least-loop l = Swept (at_least (unrolled (tree l.inner)) l.least)
    (at_least (unrolled (tree l.inner)) (suc (l.least - l.counter))) l.entered l.through
    l.fn.sweep l.sweep nowhere
