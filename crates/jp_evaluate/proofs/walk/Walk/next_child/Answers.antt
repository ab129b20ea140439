use Rattle.std.proofs.Common.{arith, rules, sym}
use Rattle.jp_evaluate.proofs.Walks.Listed.{child-cost, child-first}
use Rattle.jp_evaluate.proofs.walk.Walk.next_child.Goals as goal

pub returns-clause-gives : goal.returns-clause-gives
returns-clause-gives g c =
    child-first g.V.Lent.meaning c.args.segments.now c.args.self.now c.in-Some.frame c.in_ok-turn.turn
    c.in_ok-child.child (search rules) c.in-Some.is (sym c.in_ok-turn.ensures.gives) (omega arith)
    c.in_ok-child.ensures.untested c.in_ok-child.ensures.gives

pub returns-clause-costs : goal.returns-clause-costs
returns-clause-costs g c =
    child-cost g.V.Lent.meaning c.args.segments.now c.args.self.now c.in-Some.frame c.in_ok-turn.turn
    c.in_ok-child.child (search rules) c.in-Some.is (sym c.in_ok-turn.ensures.gives) (omega arith)
    c.in_ok-child.ensures.untested c.in_ok-child.ensures.gives
