-- What is true of each checked query, and of each checked expression of a filter.
use Rattle.jp_check.specs.declared.checked.Checked.TheInside.{Inside}
use Rattle.jp_check.specs.declared.checked_filter.CheckedFilter.TheInside as filter
use Rattle.jp_tree.specs.Views.{expr_of, query_of}
use Rattle.jp_check.specs.Accepted.{IsAccepted, IsFilterAccepted}
use Rattle.jp_check.specs.Checked.{Profiled, ProfiledFilter}

-- its fields
abbrev pub profiled : Inside → Profiled
profiled c = record { query = c.query; profile = c.profile }

-- in its profile some text is accepted as the tree
abbrev pub IsAcceptedInside : Inside → Type 0
IsAcceptedInside c = IsAccepted c.profile (query_of c.query)

-- the same of a filter's expression
abbrev pub profiled_filter : filter.Inside → ProfiledFilter
profiled_filter c = record { expr = c.expr.value; profile = c.profile }

abbrev pub IsFilterAcceptedInside : filter.Inside → Type 0
IsFilterAcceptedInside c = IsFilterAccepted c.profile (expr_of c.expr.value)
