use Rattle.std.proofs.Common.{◌≢◌, ◌<◌, length, arith, add-one, below_more, get_or-set_other}
use Rattle.std.proofs.Common.{get_or-set_same}
use Rattle.std.proofs.lemmas.Grind.{common_steps}
use Rattle.jp_match.proofs.offsets.shift.Goals as goal
use Rattle.jp_match.proofs.offsets.shift.Goals.{then-leaves, else-leaves}
use Rattle.jp_match.proofs.Sets.Shift.{counted_more, counted_same, last_entered, image_shift}

pub loop-i-preserved : goal.loop-i-preserved
loop-i-preserved c = record {
  same_length = grind (arith, common_steps);
  carried = rw add-one (elim c.if-leaves.branch [
    | then-leaves w ↦ grind (
      arith,
      common_steps,
      c.loop-i.invariant.left c.loop-i.i,
    )
    | else-leaves w ↦ grind (
      arith,
      common_steps,
      c.loop-i.invariant.left c.loop-i.i,
    )
  ]);
  done = below_more _ _
      (λ k h. let ne : k ≢ c.loop-i.i = omega arith in
      rw get_or-set_other (c.loop-i.invariant.done k h))
      (let lt : c.loop-i.i < length c.loop-i.offsets.items = omega arith in
      rw get_or-set_same c.loop-i.invariant.carried);
  left = λ k h. let ne : k ≢ c.loop-i.i = omega arith in
      rw get_or-set_other (c.loop-i.invariant.left k (omega arith));
  counted = elim c.if-leaves.branch [
    | then-leaves w ↦
        rw w.tests-is (counted_more c.args.offsets.now.items c.loop-i.i c.args.tests.now
        c.loop-i.tests _ (omega arith) (grind (
          arith,
          common_steps,
          c.loop-i.invariant.left c.loop-i.i,
        ))
        c.loop-i.invariant.counted w.holds-arrives.ensures.tests.counted)
    | else-leaves w ↦
        rw w.tests-is (counted_same c.args.offsets.now.items c.loop-i.i c.args.tests.now
        c.loop-i.tests (omega arith) (grind (
          arith,
          common_steps,
          c.loop-i.invariant.left c.loop-i.i,
        ))
        c.loop-i.invariant.counted)
  ];
  kept = elim c.if-leaves.branch [ then-leaves w ↦ omega arith | else-leaves w ↦ omega arith ];
}

pub returns-clause-image : goal.returns-clause-image
returns-clause-image c =
    image_shift _ _ _ _ _ (omega arith) (grind (arith, common_steps))
    (last_entered _ c.loop-i.offsets.items _ _ _ c.loop-i.invariant.done c.loop-i.invariant.carried
    (omega arith) (omega arith))
