use Rattle.jp_query.proofs.Readers.HexKinds.{unit-result}
use Rattle.jp_query.proofs.strings.unit.Goals as goal

pub returns-clause-range : goal.returns-clause-range
returns-clause-range c =
    unit-result c.args.first c.args.second c.in_ok-a.a c.unit_after.result c.in_ok-a.ensures.range
    c.unit_after.ensures.range
