use Rattle.jp_tree.specs.Views.{argument_of, expr_of, segment_of, selector_of}
use Rattle.jp_select.specs.Steps.{Takes}
use Rattle.jp_evaluate.specs.Private.Settled.{settled_argument, settled_expr, settled_segment}
use Rattle.jp_evaluate.specs.Private.Settled.{settled_selector}
use Rattle.jp_evaluate.proofs.Settling.Lists.{IsMadeUpTo}
use Rattle.jp_evaluate.proofs.evaluating.Evaluation.+settled.Given as goal

-- the arguments so far
abbrev pub invariant-settled_arguments-loop-argument : goal.invariant-settled_arguments-loop-argument
invariant-settled_arguments-loop-argument g l =
    IsMadeUpTo argument_of (λ x. settled_argument (g.V.Lent.meaning l.self.root) (argument_of x)) l.settled.items l.arguments
    l.argument-index
    × Takes l.fn.work.steps l.work.steps

-- the parts so far
abbrev pub invariant-settled_parts-loop-part : goal.invariant-settled_parts-loop-part
invariant-settled_parts-loop-part g l =
    IsMadeUpTo expr_of (λ e. settled_expr (g.V.Lent.meaning l.self.root) (expr_of e)) l.settled.items l.parts
    l.part-index
    × Takes l.fn.work.steps l.work.steps

-- the segments so far
abbrev pub invariant-settled_segments-loop-segment : goal.invariant-settled_segments-loop-segment
invariant-settled_segments-loop-segment g l =
    IsMadeUpTo segment_of (λ s. settled_segment (g.V.Lent.meaning l.self.root) (segment_of s)) l.settled.items l.segments
    l.segment-index
    × Takes l.fn.work.steps l.work.steps

-- the selectors so far
abbrev pub invariant-settled_selectors-loop-selector : goal.invariant-settled_selectors-loop-selector
invariant-settled_selectors-loop-selector g l =
    IsMadeUpTo selector_of (λ s. settled_selector (g.V.Lent.meaning l.self.root) (selector_of s)) l.settled.items l.selectors
    l.selector-index
    × Takes l.fn.work.steps l.work.steps
