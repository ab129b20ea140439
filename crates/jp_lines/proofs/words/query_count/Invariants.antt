use Rattle.std.proofs.Common.{map}
use Rattle.jp_lines.proofs.QueryWords.{CountsOn}
use Rattle.jp_lines.proofs.words.query_count.Given as goal

-- the words so far are queries
abbrev pub invariant-loop-place : goal.invariant-loop-place
invariant-loop-place l = CountsOn (map (λ w. w.now) l.words) l.place
