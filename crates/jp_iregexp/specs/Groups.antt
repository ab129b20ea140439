-- How deep the groups of a pattern may be inside one another.
use Rattle.std.specs.Prelude.{ℕ}

-- the greatest number of groups inside one another in a pattern that is read
abbrev pub group_limit : ℕ
group_limit = 64
