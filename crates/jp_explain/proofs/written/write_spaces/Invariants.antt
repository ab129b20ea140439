use Rattle.std.proofs.Common.{◌≡◌, ◌++◌, replicate}
use Rattle.jp_reading.specs.Characters.{space}
use Rattle.jp_explain.proofs.written.write_spaces.Given as goal

abbrev pub invariant-loop : goal.invariant-loop
invariant-loop l = l.out ≡ l.initial.out ++ replicate l.counter space
