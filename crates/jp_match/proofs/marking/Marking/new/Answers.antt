use Rattle.std.proofs.Common.{arith}
use Rattle.jp_iregexp.specs.Tree.{tree}
use Rattle.jp_match.specs.Private.Plain.{unrolled}
use Rattle.jp_match.proofs.Steps.Kept.{ends_are, ends_are_entered, ends_fresh, rounds_fresh}
use Rattle.jp_match.proofs.Steps.Kept.{rounds_is}
use Rattle.jp_match.proofs.Steps.StepParts.{step_nowhere}
use Rattle.jp_match.proofs.marking.Marking.new.Goals as goal

pub invariant_of-result : goal.invariant_of-result
invariant_of-result c =
    let a = unrolled (tree c.args.pattern.now) in
    let marks = c.in_ok-marks.marks.items in
    let none = c.in_ok-marks.ensures.none in
    record {
      no_mark = λ e. none;
      ended = λ k over. none k;
      sized = omega (arith, c.in_ok-marks.ensures.same_length, c.requires.positions);
      kept = omega (
        arith,
        c.in_ok-rounds.ensures.same_length,
        c.requires.rounds,
        c.if-counts-ge-MANY_ROUNDS.false,
      );
      so = (rounds_is _ _ _).1 (rounds_fresh a marks c.in_ok-rounds.rounds.items none
          c.in_ok-rounds.ensures.none);
      reached = ends_are a marks _ (step_nowhere a 0 marks none).ends;
      reached_entered = rw c.has_empty_word.ensures (ends_are_entered a marks _ (ends_fresh (tree
          c.args.pattern.now) marks none));
    }
