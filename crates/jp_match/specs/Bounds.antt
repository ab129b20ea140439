-- How many class tests a call makes, by the count before it and the count after it.
use Rattle.std.specs.Prelude.{ℕ, ◌+◌, ◌*◌, ◌≤◌, List, length}
use Rattle.jp_iregexp.specs.Tree.{Tree}
use Rattle.jp_iregexp.specs.Positions.{positions_of}

-- at most so many tests are made
pub record MakesAtMost (most before after : ℕ) : Type 0 where
  pub counted : after ≤ before + most
  pub kept : before ≤ after

-- tests are only added, and where the pattern has at most 4,096 positions, at most one for each of
-- them and each character of the text
pub record KeepsBound (t : Tree) (text : List ℕ) (before after : ℕ) : Type 0 where
  pub counted : positions_of t ≤ 4096 → after ≤ before + positions_of t * length text
  pub kept : before ≤ after
