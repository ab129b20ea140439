use Rattle.std.proofs.Common.{arith}
use Rattle.jp_select.proofs.Slices.Items.{falling-ends, falling-gives, position_within}
use Rattle.jp_select.proofs.slice.falling.Goals as goal

pub returns-then-lower-above-clause-index : goal.returns-then-lower-above-clause-index
returns-then-lower-above-clause-index c =
    falling-gives c.args.length c.args.position c.args.size c.falling_upper-upper.result
    c.falling_lower-lower.result c.saturating_mul.result c.saturating_sub-above.result
    c.args.start c.args.end c.requires (omega arith) c.falling_upper-upper.ensures.within
    c.falling_upper-upper.ensures.bound c.falling_lower-lower.ensures.bound c.saturating_mul.ensures
    c.saturating_sub-above.ensures c.if-lower-above.true

pub returns-then-lower-above-clause-more : goal.returns-then-lower-above-clause-more
returns-then-lower-above-clause-more c =
    let more = position_within c.args.size c.args.position c.requires in omega arith

pub returns-else-lower-above-clause-index : goal.returns-else-lower-above-clause-index
returns-else-lower-above-clause-index c =
    falling-ends c.args.length c.args.position c.args.size c.falling_upper-upper.result
    c.falling_lower-lower.result c.saturating_mul.result c.saturating_sub-above.result
    c.args.start c.args.end c.requires (omega arith) c.falling_upper-upper.ensures.within
    c.falling_upper-upper.ensures.bound c.falling_lower-lower.ensures.bound c.saturating_mul.ensures
    c.saturating_sub-above.ensures c.if-lower-above.false
