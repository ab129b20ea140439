-- What is true of each parsed query, and of each parsed expression of a filter.
use Rattle.jp_query.specs.declared.parsed.Parsed.TheInside.{Inside}
use Rattle.jp_query.specs.declared.parsed_filter.ParsedFilter.TheInside as filter
use Rattle.jp_query.specs.Levels.{level_limit, filter_level_limit}
use Rattle.jp_tree.specs.Views.{expr_of, query_of}
use Rattle.jp_query.specs.Spelled.{Spanned, SpannedFilter, IsSpelled, IsFilterSpelled}

-- the fields without their memory
abbrev pub spanned : Inside → Spanned
spanned p = record { query = p.query; spans = p.spans.items }

-- some text spells the tree with these spans within the limit of levels
abbrev pub IsSpelledInside : Inside → Type 0
IsSpelledInside p = IsSpelled level_limit (query_of p.query) p.spans.items

-- the same of a filter's expression
abbrev pub spanned_filter : filter.Inside → SpannedFilter
spanned_filter p = record { expr = p.expr.value; spans = p.spans.items }

abbrev pub IsFilterSpelledInside : filter.Inside → Type 0
IsFilterSpelledInside p = IsFilterSpelled filter_level_limit (expr_of p.expr.value) p.spans.items
