use Rattle.jp_explain.specs.Private.Attempts.{IsSound}
use Rattle.jp_explain.proofs.suggestion.suggestion.Given as goal

abbrev pub invariant-loop : goal.invariant-loop
invariant-loop l = IsSound l.profile l.attempt
