use Rattle.jp_tree.specs.Views.{argument_of, call_of}
use Rattle.jp_evaluate.specs.Private.Sizes.{argument_size, call_size}
use Rattle.jp_evaluate.proofs.calls.+arguments.Given as goal

abbrev pub decreases-argument_query : goal.decreases-argument_query
decreases-argument_query l = argument_size (argument_of l.argument.now)

abbrev pub decreases-call_query : goal.decreases-call_query
decreases-call_query l = call_size (call_of l.call.now)
