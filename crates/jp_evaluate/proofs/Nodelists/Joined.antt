-- What segments give from a list is what they give from each of its nodes, joined.
use Rattle.std.proofs.Common.{◌≡◌, Bool, true, false, List, [], ◌∷◌, ◌++◌, refl, ap, ◌∙◌}
use Rattle.std.specs.List.{flat_map}
use Rattle.std.proofs.lemmas.Grind.{flat_map-append}
use Rattle.jp_document.specs.Node.{Node}
use Rattle.jp_document.specs.Value.{Value}
use Rattle.jp_tree.specs.Tree.{SegmentTree, SegmentTrees, no_segments, segment, segment_then}
use Rattle.jp_select.specs.Subtree.{subtree_of}
use Rattle.jp_evaluate.specs.Nodelist.{result, segment_result, selected, visited}
use Rattle.jp_evaluate.specs.Private.Walk.{reaches}

visited-append : (b : Bool) (ms ns : List Node) → visited b (ms ++ ns) ≡ visited b ms ++ visited b ns
visited-append false ms ns = refl
visited-append true ms ns = flat_map-append subtree_of ms ns

segment-append : (s : SegmentTree) (d : Value) (ms ns : List Node)
    → segment_result s d (ms ++ ns) ≡ segment_result s d ms ++ segment_result s d ns
segment-append (segment b ss) d ms ns =
    ap (flat_map (selected ss d)) (visited-append b ms ns)
    ∙ flat_map-append (selected ss d) (visited b ms) (visited b ns)

pub result-append : (all : SegmentTrees) (d : Value) (ms ns : List Node)
    → result all d (ms ++ ns) ≡ result all d ms ++ result all d ns
result-append no_segments d ms ns = refl
result-append (segment_then s rest) d ms ns =
    ap (result rest d) (segment-append s d ms ns)
    ∙ result-append rest d (segment_result s d ms) (segment_result s d ns)

pub result-none : (all : SegmentTrees) (d : Value) → result all d [] ≡ []
result-none no_segments d = refl
result-none (segment_then (segment false ss) rest) d = result-none rest d
result-none (segment_then (segment true ss) rest) d = result-none rest d

pub result-each : (all : SegmentTrees) (d : Value) (ns : List Node)
    → result all d ns ≡ flat_map (reaches all d) ns
result-each all d [] = result-none all d
result-each all d (n ∷ ns) =
    result-append all d (n ∷ []) ns ∙ ap (λ t. reaches all d n ++ t) (result-each all d ns)
