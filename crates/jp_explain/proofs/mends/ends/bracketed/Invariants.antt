use Rattle.std.proofs.Common.{◌≡◌, ◌++◌, reverse}
use Rattle.jp_explain.proofs.mends.ends.bracketed.Given as goal

abbrev pub invariant-loop-c : goal.invariant-loop-c
invariant-loop-c l = l.out ++ reverse l.c-iterator.iter.rest.now ≡ l.kept ++ reverse l.closing
