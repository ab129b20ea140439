-- Counting down the nodes that are asked for. The clauses of `is_more` cite it.
use Rattle.std.specs.Prelude.{◌==◌, ℕ, Bool, true, not, Option, Some, None}

-- whether there is one more of so many, or of all
abbrev pub is_more : Option ℕ → Bool
is_more None = true
is_more (Some n) = not (n == 0)
