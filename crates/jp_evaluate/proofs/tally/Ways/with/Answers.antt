use Rattle.std.proofs.Common.{refl}
use Rattle.jp_evaluate.proofs.Walks.WaySums.{together-first}
use Rattle.jp_evaluate.proofs.tally.Ways.with.Goals as goal

pub returns-then-ways-way-clause-sums : goal.returns-then-ways-way-clause-sums
returns-then-ways-way-clause-sums c = λ h counts.
    together-first h c.args.self.first c.args.way
    (record { done = c.args.self.first.done; count = c.saturating_add-ways.result })
    c.args.self.more.items counts refl c.if-ways-way.true c.saturating_add-ways.ensures
