-- What stands in a text to which another is appended, also where memory runs out on the way.
use Rattle.std.specs.Prelude.{◌≡◌, ℕ, List, ◌++◌}

-- now is before, and behind it a beginning of whole: nothing of it, a part or all
pub record IsBegun (before whole now : List ℕ) : Type 0 where
  pub done : List ℕ
  pub rest : List ℕ
  pub begun : whole ≡ done ++ rest
  pub appended : now ≡ before ++ done
