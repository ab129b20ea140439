-- How many positions a pattern has: the classes of its text once its counted repeats are written
-- out.
use Rattle.std.specs.Prelude.{ℕ, ◌+◌, ◌*◌, max, Option, Some, None}
use Rattle.jp_iregexp.specs.Tree.{Tree, class, nothing, either, empty, sequence, repeat}

-- how many copies of its inner pattern a repeat is written out with: its most, or with no upper end
-- its least and at least one, which is the one that goes on
abbrev pub copies : ℕ → Option ℕ → ℕ
copies least None = max least 1
copies least (Some most) = most

-- the positions of a pattern: one for a class, of branches and of pieces those of all, of a repeat
-- those of its copies
abbrev pub positions_of : Tree → ℕ
positions_of (class negated items) = 1
positions_of nothing = 0
positions_of (either a b) = positions_of a + positions_of b
positions_of empty = 0
positions_of (sequence a b) = positions_of a + positions_of b
positions_of (repeat a least most) = copies least most * positions_of a
