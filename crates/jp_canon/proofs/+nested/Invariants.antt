use Rattle.std.proofs.Common.{◌≡◌, ◌++◌, drop, map, codes}
use Rattle.jp_tree.specs.Tree.{arguments, exprs}
use Rattle.jp_tree.specs.Views.{argument_of, call_of, expr_of}
use Rattle.jp_tree.specs.Tree.{segments, selectors}
use Rattle.jp_tree.specs.Views.{query_of, segment_of, selector_of}
use Rattle.jp_canon.specs.Canon.{argument_texts, call_text, canon_of, part_texts}
use Rattle.jp_canon.specs.Canon.{segment_text, segments_text, selector_texts, separated}
use Rattle.jp_canon.proofs.Parts.{texts_from}
use Rattle.jp_canon.proofs.+nested.Given as goal

-- what is written, and the segments to come, is the whole
abbrev pub invariant-segments::write_query-loop-segment :
    goal.invariant-segments::write_query-loop-segment
invariant-segments::write_query-loop-segment l =
    l.out ++ segments_text (segments (map segment_of (drop l.segment-index l.segment-items)))
    ≡ l.fn.out ++ canon_of (query_of l.query)

-- what is written, and the selectors to come, is the whole
abbrev pub invariant-segments::write_segment-loop-i : goal.invariant-segments::write_segment-loop-i
invariant-segments::write_segment-loop-i l =
    l.out ++ (texts_from l.i (codes ",")
    (selector_texts (selectors (map selector_of (drop l.i l.selector-items)))) ++ codes "]")
    ≡ l.fn.out ++ segment_text (segment_of l.segment)

-- what is written, and the parts to come, is the whole
abbrev pub invariant-expressions::write_parts-loop-i :
    goal.invariant-expressions::write_parts-loop-i
invariant-expressions::write_parts-loop-i l =
    l.out ++ texts_from l.i l.separator (part_texts l.outer (exprs (map expr_of (drop l.i l.parts))))
    ≡ l.fn.out ++ separated l.separator (part_texts l.outer (exprs (map expr_of l.parts)))

-- what is written, and the arguments to come, is the whole
abbrev pub invariant-calls::write_call-loop-i : goal.invariant-calls::write_call-loop-i
invariant-calls::write_call-loop-i l =
    l.out ++ (texts_from l.i (codes ",")
    (argument_texts (arguments (map argument_of (drop l.i l.argument-items)))) ++ codes ")")
    ≡ l.fn.out ++ call_text (call_of l.call)
