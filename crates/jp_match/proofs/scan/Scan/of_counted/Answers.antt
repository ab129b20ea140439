use Rattle.std.proofs.Common.{◌≤◌, ap, arith}
use Rattle.jp_iregexp.specs.Tree.{tree}
use Rattle.jp_iregexp.specs.Positions.{positions_of}
use Rattle.jp_match.proofs.Texts.Scanning.{left_first}
use Rattle.jp_match.proofs.scan.Scan.of_counted.Goals as goal

pub returns : goal.returns
returns c =
    let few : positions_of (tree c.args.counted.pattern.now) ≤ 4096 = omega (
      arith,
      c.args.counted.positions,
      c.if-counts-gt-MOST_POSITIONS.false,
    ) in (
      few,
      record {
        of = ap tree c.in_ok-marking.ensures.of;
        left = λ word. rw c.in_ok-marking.ensures.of (left_first (tree c.args.counted.pattern.now)
            c.args.anywhere c.in_ok-marking.marking.sweep.marks.items c.in_ok-marking.ensures.none
            word);
      },
    )
