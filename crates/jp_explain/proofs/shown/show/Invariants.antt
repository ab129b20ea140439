use Rattle.std.proofs.Common.{◌≡◌, ◌++◌, drop}
use Rattle.jp_explain.specs.Shown.{shown}
use Rattle.jp_explain.proofs.shown.show.Given as goal

abbrev pub invariant-loop-c : goal.invariant-loop-c
invariant-loop-c l = l.out ++ shown (drop l.c-index l.text) ≡ shown l.text
