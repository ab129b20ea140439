use Rattle.std.proofs.Common.{◌≡◌, drop, map}
use Rattle.jp_query.specs.Components.{call_components, exprs_components, components_of}
use Rattle.jp_query.specs.Components.{segment_components, segments_components, selectors_components}
use Rattle.jp_tree.specs.Tree.{exprs}
use Rattle.jp_tree.specs.Views.{argument_of, call_of, expr_of, query_of}
use Rattle.jp_tree.specs.Tree.{segments, selectors}
use Rattle.jp_tree.specs.Views.{segment_of, selector_of}
use Rattle.jp_check.specs.Private.Calls.{arguments_from, wanted_of_call}
use Rattle.jp_check.specs.Private.Inspection.{past_components}
use Rattle.jp_check.proofs.inspection.Inspection.+inspection.Given as goal

-- the components of the segments still to come lead to where those of all lead
abbrev pub invariant-query-loop-segment : goal.invariant-query-loop-segment
invariant-query-loop-segment l = past_components (components_of (query_of l.query)) l.initial.self
    ≡ past_components (segments_components
    (segments (map segment_of (drop l.segment-index l.segment-items)))) l.self

-- the components of the selectors still to come lead to where those of all lead
abbrev pub invariant-segment-loop-selector : goal.invariant-segment-loop-selector
invariant-segment-loop-selector l = past_components (segment_components (segment_of l.segment)) l.initial.self
    ≡ past_components (selectors_components
    (selectors (map selector_of (drop l.selector-index l.selector-items)))) l.self

-- the components of the parts still to come lead to where those of all lead
abbrev pub invariant-parts-loop-part : goal.invariant-parts-loop-part
invariant-parts-loop-part l = past_components (exprs_components (exprs (map expr_of l.parts))) l.initial.self
    ≡ past_components (exprs_components (exprs (map expr_of (drop l.part-index l.parts)))) l.self

-- the components of the arguments still to come lead to where those of all lead
abbrev pub invariant-call-loop-index : goal.invariant-call-loop-index
invariant-call-loop-index l = (l.types ≡ wanted_of_call l.self.profile (call_of l.call))
    × (past_components (call_components (call_of l.call)) l.initial.self
    ≡ past_components (arguments_from (call_of l.call) l.index
    (map argument_of (drop l.index l.argument-items))) l.self)
