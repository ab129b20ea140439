-- How many steps it takes at least to go through what segments offer; d is the document's value throughout. What
-- tests take is not among them.
use Rattle.std.specs.Prelude.{◌≤◌, ℕ, suc, ◌+◌, length, true, false, List, [], ◌∷◌, if◌then◌else◌, sum_by}
use Rattle.jp_document.specs.Location.{Step, entries}
use Rattle.jp_document.specs.Node.{Node, root_of}
use Rattle.jp_document.specs.Value.{Value}
use Rattle.jp_tree.specs.Tree.{SegmentTree, SegmentTrees, SelectorTrees, no_segments, no_selectors, segment}
use Rattle.jp_tree.specs.Tree.{segment_then, selector_then}
use Rattle.jp_select.specs.Selectors.{candidates}
use Rattle.jp_select.specs.Subtree.{nodes_in}
use Rattle.jp_evaluate.specs.Nodelist.{result, segment_result}
use Rattle.jp_evaluate.specs.Private.Walk.{passes, test_of}

abbrev pub selector_count : SelectorTrees → ℕ
selector_count no_selectors = 0
selector_count (selector_then s ss) = suc (selector_count ss)

-- of going into a value: the selectors of the next segment, and 2
abbrev pub entering_cost : SegmentTrees → ℕ
entering_cost no_segments = 0
entering_cost (segment_then (segment descendant ss) rest) = selector_count ss + 2

-- no value is gone into that has nothing inside it
abbrev pub unless_leaf : List (Step × Value) → ℕ → ℕ
unless_leaf [] n = 0
unless_leaf (e ∷ es) n = n

-- of a value that is offered where segments are left: one, and of going into it
abbrev pub value_cost : SegmentTrees → Value → ℕ
value_cost all v = suc (unless_leaf (entries v) (entering_cost all))

-- of the values that selectors offer: one each, and where the test lets it pass f of it
abbrev pub selectors_cost : SelectorTrees → (Value → ℕ) → Value → Value → ℕ
selectors_cost no_selectors f d v = 0
selectors_cost (selector_then s ss) f d v =
    sum_by (λ e. if passes (test_of s) d (root_of e.1) then f e.1 else 1) (candidates s v)
    + selectors_cost ss f d v

-- of a value, and of all that segments offer from it on
abbrev pub cost : SegmentTrees → Value → Value → ℕ
cost no_segments d v = 1
cost (segment_then (segment false ss) rest) d v =
    value_cost (segment_then (segment false ss) rest) v + selectors_cost ss (cost rest d) d v
cost (segment_then (segment true ss) rest) d v =
    sum_by (λ n. value_cost (segment_then (segment true ss) rest) n.value
    + selectors_cost ss (cost rest d) d n.value) (nodes_in v)

-- nodelists and the steps that they take at least
pub record NodesTakeSteps : Type 0 where
  -- a nodelist takes a step for each of its nodes
  pub nodes : (all : SegmentTrees) (d : Value) (n : Node) → length (result all d (n ∷ [])) ≤ cost all d n.value
  -- what the segments after one take from each node that it selects is among what all take
  pub rest : (s : SegmentTree) (rest : SegmentTrees) (d : Value) (n : Node)
      → sum_by (λ m. cost rest d m.value) (segment_result s d (n ∷ [])) ≤ cost (segment_then s rest) d n.value
