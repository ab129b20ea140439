-- A location as a query with one child segment for each step.
use Rattle.std.specs.Prelude.{pos, true, false, [], ◌∷◌, map}
use Rattle.std.specs.Str.{chars}
use Rattle.jp_document.specs.Location.{Step, Location, named, nth}
use Rattle.jp_tree.specs.Tree.{QueryTree, SegmentTree, SelectorTree, index, name, query, segment}
use Rattle.jp_tree.specs.Tree.{segments, selectors}
use Rattle.jp_tree.specs.declared.tree.Numeral.TheVariants.{Whole}

-- a step as a selector, and as a child segment with that one
abbrev pub step_selector : Step → SelectorTree
step_selector (named s) = name (chars s)
step_selector (nth i) = index (Whole (pos i))

abbrev pub step_segment : Step → SegmentTree
step_segment k = segment false (selectors (step_selector k ∷ []))

abbrev pub path_tree : Location → QueryTree
path_tree l = query true (segments (map step_segment l))
