use Rattle.std.proofs.Common.{map}
use Rattle.jp_tree.specs.Tree.{arguments, exprs}
use Rattle.jp_tree.specs.Views.{argument_of, expr_of}
use Rattle.jp_evaluate.specs.Private.Asks.{asks_arguments, asks_exprs}
use Rattle.jp_evaluate.proofs.Kept.Told.{GoesOn}
use Rattle.jp_evaluate.proofs.asked.filters.+asked.Given as goal

-- what the arguments so far ask for was told
abbrev pub invariant-push_call-loop-argument : goal.invariant-push_call-loop-argument
invariant-push_call-loop-argument l =
    GoesOn l.fn.names.items l.names.items
    (λ p xs. asks_arguments p (arguments (map argument_of xs))) l.argument-items l.argument-index

-- the same of the parts
abbrev pub invariant-push_parts-loop-part : goal.invariant-push_parts-loop-part
invariant-push_parts-loop-part l =
    GoesOn l.fn.names.items l.names.items (λ p es. asks_exprs p (exprs (map expr_of es))) l.parts
    l.part-index
