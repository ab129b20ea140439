-- The texts that were read as patterns and are kept. What `Patterns` and the calls that hand them
-- on say cites it.
use Rattle.std.specs.Prelude.{ℕ, Bool, List, length, nat_le}
use Rattle.jp_evaluate.specs.declared.lent.LentNodes.{LentNodes}
use Rattle.jp_evaluate.specs.declared.pattern.Patterns.{Patterns}

-- the texts that are kept
abbrev pub texts_in : Patterns → List (List ℕ)
texts_in p = p.read.items

-- those that an iterator of nodes keeps now
abbrev pub texts_kept : {V M : Type 0} → LentNodes V M → List (List ℕ)
texts_kept v = texts_in v.work.patterns

-- a text has at most so many bytes that it goes from one evaluation to the next
abbrev pub is_short : List ℕ → Bool
is_short text = nat_le (length text) 1024
