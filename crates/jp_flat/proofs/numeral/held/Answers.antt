use Rattle.std.proofs.Common.{sym, arith}
use Rattle.jp_flat.proofs.numeral.held.Goals as goal

pub returns : goal.returns
returns c = record {
  exact = grind arith;
  number = c.in_ok-number_of.field-0;
  held = sym c.in_ok-number_of.ensures.value;
}
