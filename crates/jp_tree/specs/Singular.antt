-- Singular queries (RFC 9535 section 2.3.5.1).
use Rattle.std.specs.Prelude.{Bool, true, false, ◌&&◌}
use Rattle.jp_tree.specs.Tree.{SelectorTree, name, index, no_selectors, selector_then, SegmentTree}
use Rattle.jp_tree.specs.Tree.{segment, SegmentTrees, no_segments, segment_then, QueryTree, query}

-- name-selector or index-selector, of which each selects at most one node
abbrev pub is_single : SelectorTree → Bool
is_single (name cs) = true
is_single (index i) = true
is_single _ = false

-- singular-query-segments: child segments alone, each with exactly one such selector
abbrev pub is_single_segment : SegmentTree → Bool
is_single_segment (segment false (selector_then x no_selectors)) = is_single x
is_single_segment _ = false

abbrev pub are_single : SegmentTrees → Bool
are_single no_segments = true
are_single (segment_then x rest) = is_single_segment x && are_single rest

-- singular-query: it selects at most one node, whatever the document
abbrev pub is_singular : QueryTree → Bool
is_singular (query absolute all) = are_single all
