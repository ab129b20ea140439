-- What a singular query selects (RFC 9535 section 2.3.5.1), followed from value to value.
use Rattle.std.specs.Prelude.{false, Option, Some, None, option_and_then, option_map}
use Rattle.jp_document.specs.Value.{Value}
use Rattle.jp_tree.specs.Tree.{SegmentTree, SegmentTrees, SelectorTree, no_segments, no_selectors}
use Rattle.jp_tree.specs.Tree.{segment, segment_then, selector_then}
use Rattle.jp_select.specs.Selectors.{single}

-- the value that a name or an index selects at v, if it is there; other selectors, those of no
-- singular query, have none
abbrev pub chosen_value : SelectorTree → Value → Option Value
chosen_value s v = option_map (λ e. e.1) (single s v)

-- the value that a child segment with one such selector alone selects at v; other segments have
-- none
abbrev pub single_value : SegmentTree → Value → Option Value
single_value (segment false (selector_then s no_selectors)) v = chosen_value s v
single_value _ v = None

-- the value that segments select from v, each the value that the one before it gave
abbrev pub values_along : SegmentTrees → Value → Option Value
values_along no_segments v = Some v
values_along (segment_then s rest) v = option_and_then (values_along rest) (single_value s v)
