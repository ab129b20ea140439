-- Segments without filters select the same nodes whatever the document is.
use Rattle.std.proofs.Common.{◌≡◌, ◌++◌, true, List, refl, ap, ◌∙◌}
use Rattle.std.specs.List.{flat_map}
use Rattle.std.proofs.Math.Path.{fun_ext}
use Rattle.jp_document.specs.Node.{Node}
use Rattle.jp_document.specs.Value.{Value}
use Rattle.jp_reading.proofs.Conjunctions.{and-left, and-right}
use Rattle.jp_select.specs.Selectors.{chosen}
use Rattle.jp_tree.specs.Tree.{SegmentTrees, SelectorTrees, filter, index, name, no_segments}
use Rattle.jp_tree.specs.Tree.{no_selectors, segment, segment_then, selector_then, slice, wildcard}
use Rattle.jp_evaluate.specs.Nodelist.{result, segment_result, selected, visited}
use Rattle.jp_evaluate.specs.Private.Asks.{are_unfiltered, has_no_filter}

selected-plain : (ss : SelectorTrees) (d u : Value) (n : Node) → are_unfiltered ss ≡ true
    → selected ss u n ≡ selected ss d n
selected-plain no_selectors d u n plain = refl
selected-plain (selector_then (name cs) rest) d u n plain =
    ap (λ ns. chosen (name cs) n ++ ns) (selected-plain rest d u n plain)
selected-plain (selector_then wildcard rest) d u n plain =
    ap (λ ns. chosen wildcard n ++ ns) (selected-plain rest d u n plain)
selected-plain (selector_then (index i) rest) d u n plain =
    ap (λ ns. chosen (index i) n ++ ns) (selected-plain rest d u n plain)
selected-plain (selector_then (slice s) rest) d u n plain =
    ap (λ ns. chosen (slice s) n ++ ns) (selected-plain rest d u n plain)
selected-plain (selector_then (filter e) rest) d u n plain = absurd (cc)

pub result-plain : (all : SegmentTrees) (d u : Value) (ns : List Node) → has_no_filter all ≡ true
    → result all u ns ≡ result all d ns
result-plain no_segments d u ns plain = refl
result-plain (segment_then (segment descendant ss) rest) d u ns plain =
    ap (λ (f : Node → List Node). result rest u (flat_map f (visited descendant ns)))
    (fun_ext (λ n. selected-plain ss d u n (and-left _ _ plain)))
    ∙ result-plain rest d u (segment_result (segment descendant ss) d ns) (and-right _ _ plain)
