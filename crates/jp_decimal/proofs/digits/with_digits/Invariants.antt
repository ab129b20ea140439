-- For `with_digits`.
use Rattle.std.proofs.Common.{◌≡◌, ◌+◌, ◌≤◌, drop}
use Rattle.std.specs.Str.Parse.{digits_value_after}
use Rattle.jp_decimal.specs.Private.Runs.{IsRun, run_value}
use Rattle.jp_decimal.proofs.digits.with_digits.Given as goal

abbrev pub invariant-loop-digit : goal.invariant-loop-digit
invariant-loop-digit l = record {
  run : IsRun l.longer;
  value : digits_value_after 10 (run_value l.longer) (drop l.digit-index l.digits) ≡ digits_value_after 10 (run_value l.fn.run) l.digits;
  zeros : l.longer.zeros ≤ l.fn.run.zeros + l.digit-index;
}
