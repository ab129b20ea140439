use Rattle.std.proofs.Common.{◌≤◌, ◌*◌, ◌-◌, ◌^◌, min, arith, subst, sym}
use Rattle.jp_iregexp.specs.Tree.{tree}
use Rattle.jp_iregexp.specs.Positions.{positions_of}
use Rattle.jp_match.proofs.Counting.{steps-cover}
use Rattle.jp_match.proofs.counted.CountedPattern.steps_over.Goals as goal

pub returns : goal.returns
returns c few =
    let p = positions_of (tree c.args.self.now.pattern) in
    let all = c.args.self.now.positions in
    let moved = c.args.self.now.moved in
    let enough : p ≤ 64 * c.args.self.now.steps_a_char = omega arith in
    subst (λ r. min (p * c.args.bytes) (2 ^ 64 - 1) ≤ 64 * r) (sym c.saturating_mul.ensures)
    (steps-cover p c.args.bytes c.args.self.now.steps_a_char (2 ^ 64 - 1) enough)
