use Rattle.jp_query.proofs.Readers.HexKinds.{unit-after}
use Rattle.jp_query.proofs.strings.unit_after.Goals as goal

pub returns-clause-range : goal.returns-clause-range
returns-clause-range c =
    unit-after c.args.second c.args.a c.in_ok-b.b c.in_ok-c.c c.in_ok-d.d c.requires
    c.in_ok-b.ensures.range c.in_ok-c.ensures.below c.in_ok-d.ensures.below
