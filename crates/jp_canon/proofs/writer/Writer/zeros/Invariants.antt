use Rattle.std.proofs.Common.{◌≡◌, ◌++◌}
use Rattle.jp_decimal.specs.NumberText.{zeros}
use Rattle.jp_canon.proofs.writer.Writer.zeros.Given as goal

abbrev pub invariant-zeros : goal.invariant-zeros
invariant-zeros l = l.self ≡ l.fn.self ++ zeros l.counter
