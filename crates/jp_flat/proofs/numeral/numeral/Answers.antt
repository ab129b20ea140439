use Rattle.jp_flat.specs.Flat.{shown}
use Rattle.jp_flat.proofs.Leaves.{numeral-taken}
use Rattle.jp_flat.proofs.numeral.numeral.Goals as goal

pub returns : goal.returns
returns c =
    numeral-taken (shown c.args.tables.now) c.in_ok-span.span c.args.text.now c.in_ok-held.ensures
    c.in_ok-span.ensures
