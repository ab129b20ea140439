use Rattle.jp_iregexp.specs.Tree.{tree}
use Rattle.jp_match.proofs.Beginnings.{left_stays, left_never}
use Rattle.jp_match.proofs.scan.Scan.is_at_rest.Goals as goal

pub returns-clause-stays : goal.returns-clause-stays
returns-clause-stays c = λ idle char never. left_stays (tree c.args.self.now.marking.pattern.now) _ _
    _ char c.if-not-self.false c.if-not-self-2.false (c.args.self.now.marking.no_mark idle) never

pub returns-clause-refuses : goal.returns-clause-refuses
returns-clause-refuses c = λ idle char never. left_never (tree
    c.args.self.now.marking.pattern.now) _ _ _ char c.if-not-self.false
    (c.args.self.now.marking.no_mark idle) never
