-- How deep filters, parentheses and calls may be inside one another.
use Rattle.std.specs.Prelude.{ℕ}

-- the greatest number of levels in a query that is read
abbrev pub level_limit : ℕ
level_limit = 128

-- and in the expression of a filter alone, since a filter is a level of its query
abbrev pub filter_level_limit : ℕ
filter_level_limit = 127
