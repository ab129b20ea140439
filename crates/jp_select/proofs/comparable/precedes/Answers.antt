use Rattle.std.proofs.Common.{◌∙◌}
use Rattle.jp_select.proofs.Comparisons.TextOrder.{bytes-precedes}
use Rattle.jp_select.proofs.comparable.precedes.Goals as goal

pub returns : goal.returns
returns c = c.lt.ensures ∙ bytes-precedes c.args.left.now c.args.right.now c.utf8.left c.utf8.right
