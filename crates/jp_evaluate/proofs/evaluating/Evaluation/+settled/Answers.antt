use Rattle.std.proofs.Common.{◌++◌, ap, map, ◌∙◌}
use Rattle.jp_tree.specs.Tree.{arguments, exprs, segments, selectors}
use Rattle.jp_tree.specs.Views.{argument_of, expr_of, segment_of, selector_of}
use Rattle.jp_select.proofs.Stepping.{takes_none, takes_then}
use Rattle.jp_evaluate.specs.Private.Settled.{settled_argument, settled_expr, settled_segment}
use Rattle.jp_evaluate.specs.Private.Settled.{settled_selector}
use Rattle.jp_evaluate.proofs.Settling.Lists.{arguments_settled, exprs_settled, made_all, made_push}
use Rattle.jp_evaluate.proofs.Settling.Lists.{segments_settled, selectors_settled}
use Rattle.jp_evaluate.proofs.evaluating.Evaluation.+settled.Goals as goal

pub settled_arguments-loop-argument-init : goal.settled_arguments-loop-argument-init
settled_arguments-loop-argument-init g t c =
    let d = g.V.Lent.meaning c.args.self.now.root in (
      ap (λ xs. map argument_of xs ++ map (λ x. settled_argument d (argument_of x)) c.args.arguments.now)
          c.in_ok-settled.ensures.items,
      takes_none c.args.work.now.steps,
    )

pub settled_arguments-loop-argument-preserved : goal.settled_arguments-loop-argument-preserved
settled_arguments-loop-argument-preserved g t c =
    let d = g.V.Lent.meaning c.args.self.now.root in (
      made_push argument_of (λ x. settled_argument d (argument_of x)) c.loop-argument.settled.items c.args.arguments.now
          c.loop-argument.argument-index _ c.argument-item.result c.push.new.self.items c.in_ok-push.ensures.items
          c.loop-argument-test.true c.argument-item.is c.in_ok-settled_argument.ensures.gives c.loop-argument.invariant.0,
      takes_then c.loop-argument.invariant.1 c.settled_argument.ensures.takes,
    )

pub settled_arguments-returns-clause-gives : goal.settled_arguments-returns-clause-gives
settled_arguments-returns-clause-gives g t c =
    let d = g.V.Lent.meaning c.args.self.now.root in
    ap arguments
    (made_all argument_of (λ x. settled_argument d (argument_of x)) c.loop-argument.settled.items c.args.arguments.now
    c.loop-argument.argument-index c.loop-argument-test.false c.loop-argument.invariant.0)
    ∙ arguments_settled d c.args.arguments.now

pub settled_parts-loop-part-init : goal.settled_parts-loop-part-init
settled_parts-loop-part-init g t c =
    let d = g.V.Lent.meaning c.args.self.now.root in (
      ap (λ xs. map expr_of xs ++ map (λ e. settled_expr d (expr_of e)) c.args.parts.now)
          c.in_ok-settled.ensures.items,
      takes_none c.args.work.now.steps,
    )

pub settled_parts-loop-part-preserved : goal.settled_parts-loop-part-preserved
settled_parts-loop-part-preserved g t c =
    let d = g.V.Lent.meaning c.args.self.now.root in (
      made_push expr_of (λ e. settled_expr d (expr_of e)) c.loop-part.settled.items c.args.parts.now
          c.loop-part.part-index _ c.part-item.result c.push.new.self.items c.in_ok-push.ensures.items
          c.loop-part-test.true c.part-item.is c.in_ok-settled_expr.ensures.gives c.loop-part.invariant.0,
      takes_then c.loop-part.invariant.1 c.settled_expr.ensures.takes,
    )

pub settled_parts-returns-clause-gives : goal.settled_parts-returns-clause-gives
settled_parts-returns-clause-gives g t c =
    let d = g.V.Lent.meaning c.args.self.now.root in
    ap exprs
    (made_all expr_of (λ e. settled_expr d (expr_of e)) c.loop-part.settled.items c.args.parts.now
    c.loop-part.part-index c.loop-part-test.false c.loop-part.invariant.0)
    ∙ exprs_settled d c.args.parts.now

pub settled_segments-loop-segment-init : goal.settled_segments-loop-segment-init
settled_segments-loop-segment-init g t c =
    let d = g.V.Lent.meaning c.args.self.now.root in (
      ap (λ xs. map segment_of xs ++ map (λ s. settled_segment d (segment_of s)) c.args.segments.now)
          c.in_ok-settled.ensures.items,
      takes_none c.args.work.now.steps,
    )

pub settled_segments-loop-segment-preserved : goal.settled_segments-loop-segment-preserved
settled_segments-loop-segment-preserved g t c =
    let d = g.V.Lent.meaning c.args.self.now.root in (
      made_push segment_of (λ s. settled_segment d (segment_of s)) c.loop-segment.settled.items c.args.segments.now
          c.loop-segment.segment-index _ c.segment-item.result c.push.new.self.items c.in_ok-push.ensures.items
          c.loop-segment-test.true c.segment-item.is c.in_ok-settled_segment.ensures.gives c.loop-segment.invariant.0,
      takes_then c.loop-segment.invariant.1 c.settled_segment.ensures.takes,
    )

pub settled_segments-returns-clause-gives : goal.settled_segments-returns-clause-gives
settled_segments-returns-clause-gives g t c =
    let d = g.V.Lent.meaning c.args.self.now.root in
    ap segments
    (made_all segment_of (λ s. settled_segment d (segment_of s)) c.loop-segment.settled.items c.args.segments.now
    c.loop-segment.segment-index c.loop-segment-test.false c.loop-segment.invariant.0)
    ∙ segments_settled d c.args.segments.now

pub settled_selectors-loop-selector-init : goal.settled_selectors-loop-selector-init
settled_selectors-loop-selector-init g t c =
    let d = g.V.Lent.meaning c.args.self.now.root in (
      ap (λ xs. map selector_of xs ++ map (λ s. settled_selector d (selector_of s)) c.args.selectors.now)
          c.in_ok-settled.ensures.items,
      takes_none c.args.work.now.steps,
    )

pub settled_selectors-loop-selector-preserved : goal.settled_selectors-loop-selector-preserved
settled_selectors-loop-selector-preserved g t c =
    let d = g.V.Lent.meaning c.args.self.now.root in (
      made_push selector_of (λ s. settled_selector d (selector_of s)) c.loop-selector.settled.items c.args.selectors.now
          c.loop-selector.selector-index _ c.selector-item.result c.push.new.self.items c.in_ok-push.ensures.items
          c.loop-selector-test.true c.selector-item.is c.in_ok-settled_selector.ensures.gives c.loop-selector.invariant.0,
      takes_then c.loop-selector.invariant.1 c.settled_selector.ensures.takes,
    )

pub settled_selectors-returns-clause-gives : goal.settled_selectors-returns-clause-gives
settled_selectors-returns-clause-gives g t c =
    let d = g.V.Lent.meaning c.args.self.now.root in
    ap selectors
    (made_all selector_of (λ s. settled_selector d (selector_of s)) c.loop-selector.settled.items c.args.selectors.now
    c.loop-selector.selector-index c.loop-selector-test.false c.loop-selector.invariant.0)
    ∙ selectors_settled d c.args.selectors.now
