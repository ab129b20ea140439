-- For `push_zeros`.
use Rattle.std.proofs.Common.{◌≡◌, ◌++◌, string_bytes}
use Rattle.jp_decimal.specs.NumberText.{zeros}
use Rattle.jp_decimal.proofs.writing.push_zeros.Given as goal

abbrev pub invariant-loop : goal.invariant-loop
invariant-loop l = string_bytes l.text ≡ string_bytes l.fn.text ++ zeros l.counter
