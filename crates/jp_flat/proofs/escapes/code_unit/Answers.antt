use Rattle.std.proofs.Common.{◌+◌, get_or, arith}
use Rattle.jp_flat.proofs.Undone.{unit-spelled}
use Rattle.jp_flat.proofs.escapes.code_unit.Goals as goal

pub returns : goal.returns
returns c =
    let d = c.args.bytes.now in
    let from = c.args.from in
    let one = c.in_ok-first.ensures in
    let two = c.in_ok-second.ensures in
    let three = c.in_ok-third.ensures in
    let four = c.in_ok-fourth.ensures in
    record {
      within = omega arith;
      spelled = unit-spelled (get_or d from 0) (get_or d (from + 1) 0) (get_or d (from + 2) 0)
          (get_or d (from + 3) 0) _ _ _ _ one.value two.value three.value four.value
          one.small two.small three.small four.small;
      small = omega (arith, one.small, two.small, three.small, four.small);
      ascii = four.ascii;
    }
