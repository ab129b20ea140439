use Rattle.std.proofs.Common.{◌≡◌, ◌++◌, drop}
use Rattle.jp_explain.proofs.mends.write_characters.Given as goal

abbrev pub invariant-loop-c : goal.invariant-loop-c
invariant-loop-c l = l.out ++ drop l.c-index l.characters ≡ l.initial.out ++ l.characters
