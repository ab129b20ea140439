use Rattle.std.proofs.Common.{◌∙◌, refl, sym, arith}
use Rattle.jp_iregexp.specs.Tree.{tree}
use Rattle.jp_match.proofs.Bools.{not_both}
use Rattle.jp_match.proofs.Steps.Kept.{ends_are, ends_are_entered, rounds_is}
use Rattle.jp_match.proofs.Steps.Sizes.{size_unrolled}
use Rattle.jp_match.proofs.marking.Marking.step.Goals as goal
use Rattle.jp_match.proofs.marking.Marking.step.Goals.{then-self, else-self}

pub step_whole-reach-requires : goal.step_whole-reach-requires
step_whole-reach-requires c =
    let sizes = size_unrolled (tree c.args.self.now.pattern.now) in
    record {
      before = record {
        marks = omega (arith, c.args.self.now.sized, sizes);
        rounds = λ some. omega (arith, c.args.self.now.kept);
        so = (rounds_is _ _ _).0 c.args.self.now.so;
      };
      at = refl;
      sized = c.args.self.now.sized ∙ sym sizes;
      ended = c.args.self.now.ended;
    }

pub invariant_of-self : goal.invariant_of-self
invariant_of-self c =
    let moves = c.step_whole-reach.ensures in
    let any = rw c.deref.ensures.value at c.is_any.ensures.1 in
    record {
      no_mark = λ e k m. not_both c.is_any.result e (any (k, m));
      ended = elim c.if-self.branch [
        | then-self w ↦ λ k over m. not_both c.is_any.result w.if-self.true (any (k, m))
        | else-self w ↦ rw w.self-is moves.none
      ];
      sized = moves.marks ∙ c.args.self.now.sized;
      kept = moves.rounds ∙ c.args.self.now.kept;
      so = (rounds_is _ _ _).1 moves.so;
      reached = ends_are _ _ _ moves.ends;
      reached_entered = ends_are_entered _ _ _ moves.ends_too;
    }

pub returns-clause-tests : goal.returns-clause-tests
returns-clause-tests c =
    let sizes = size_unrolled (tree c.args.self.now.pattern.now) in
    let moves = c.step_whole-reach.ensures in
    record {
      counted = omega (arith, moves.tests.counted, moves.within, sizes);
      kept = omega (arith, moves.tests.kept);
    }
