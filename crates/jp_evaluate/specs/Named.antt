-- The location that a query names, as a normalized path does (RFC 9535 section 2.7).
use Rattle.std.specs.Prelude.{◌≡◌, ◌^◌, pos, false, nat_lt, List, [], ◌∷◌, Option, Some, None}
use Rattle.std.specs.Prelude.{if◌then◌else◌, map, option_and_then, option_map, option_to_list}
use Rattle.std.specs.Str.{encode_utf8_all}
use Rattle.jp_document.specs.Location.{Location, Step, named, nth, value_at}
use Rattle.jp_document.specs.Node.{Node, node_at}
use Rattle.jp_document.specs.Value.{Value}
use Rattle.jp_tree.specs.Tree.{QueryTree, SegmentTree, SegmentTrees, SelectorTree, index, name}
use Rattle.jp_tree.specs.Tree.{no_segments, no_selectors, query, segment, segment_then}
use Rattle.jp_tree.specs.Tree.{selector_then}
use Rattle.jp_tree.specs.declared.tree.Numeral.TheVariants.{Whole}
use Rattle.jp_evaluate.specs.Nodelist.{nodelist}

-- the node of the document's value d at l alone, if there is a value there; else no node
abbrev pub nodes_at : Location → Value → List Node
nodes_at l d = map (node_at l) (option_to_list (value_at d l))

-- over each document the query selects the node at l alone, if there is a value there, and else no
-- node (section 2.3.5.1)
abbrev pub NamesLocation : QueryTree → Location → Type 0
NamesLocation q l = (d : Value) → nodelist q d ≡ nodes_at l d

-- the step that a selector names: a member's name, or an index from 0 on, which a step holds in 64
-- bits
abbrev pub step_of_selector : SelectorTree → Option Step
step_of_selector (name cs) = Some (named (encode_utf8_all cs))
step_of_selector (index (Whole (pos i))) = if nat_lt i (2 ^ 64) then Some (nth i) else None
step_of_selector _ = None

-- the step that a child segment's only selector names; other segments name none
abbrev pub step_of_segment : SegmentTree → Option Step
step_of_segment (segment false (selector_then s no_selectors)) = step_of_selector s
step_of_segment _ = None

-- the steps that segments name, if each of them names one
abbrev pub steps_of_segments : SegmentTrees → Option Location
steps_of_segments no_segments = Some []
steps_of_segments (segment_then s rest) =
    option_and_then (λ k. option_map (λ l. k ∷ l) (steps_of_segments rest)) (step_of_segment s)

-- the location that a query names by its segments, if each of them names a step
abbrev pub location_named : QueryTree → Option Location
location_named (query absolute all) = steps_of_segments all
