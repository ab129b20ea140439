use Rattle.std.proofs.Common.{nat_le, ap, ◌∙◌, rules}
use Rattle.jp_reading.specs.Numbers.{largest_exact}
use Rattle.jp_document.proofs.Readings.ListsFit.{list_fits-length}
use Rattle.jp_exact.proofs.conversion.is_short.Goals as goal

pub returns : goal.returns
returns c = ap (λ n. nat_le n largest_exact) (search rules) ∙ list_fits-length c.args.items.now
