use Rattle.std.proofs.Common.{arith}
use Rattle.jp_select.proofs.Slices.Items.{position_within, rising-ends, rising-gives}
use Rattle.jp_select.proofs.slice.rising.Goals as goal

pub returns-then-index-upper-clause-index : goal.returns-then-index-upper-clause-index
returns-then-index-upper-clause-index c =
    rising-gives c.args.length c.args.position c.args.step c.rising_lower-lower.result
    c.rising_upper-upper.result c.saturating_mul.result c.saturating_add-index.result
    c.args.start c.args.end c.requires (omega arith) c.rising_upper-upper.ensures.within
    c.rising_lower-lower.ensures.bound c.rising_upper-upper.ensures.bound c.saturating_mul.ensures
    c.saturating_add-index.ensures c.if-index-upper.true

pub returns-then-index-upper-clause-more : goal.returns-then-index-upper-clause-more
returns-then-index-upper-clause-more c =
    let more = position_within c.args.step c.args.position c.requires in omega arith

pub returns-else-index-upper-clause-index : goal.returns-else-index-upper-clause-index
returns-else-index-upper-clause-index c =
    rising-ends c.args.length c.args.position c.args.step c.rising_lower-lower.result
    c.rising_upper-upper.result c.saturating_mul.result c.saturating_add-index.result
    c.args.start c.args.end c.requires (omega arith) c.rising_upper-upper.ensures.within
    c.rising_lower-lower.ensures.bound c.rising_upper-upper.ensures.bound c.saturating_mul.ensures
    c.saturating_add-index.ensures c.if-index-upper.false
