-- The arguments of calls.
use Rattle.std.specs.Prelude.{Bool, true, false, List, Option, Some, None, option_map}
use Rattle.jp_document.specs.Node.{Node}
use Rattle.jp_tree.specs.Tree.{ArgumentTree, CallTree, QueryTree, argument_then, call}
use Rattle.jp_tree.specs.Tree.{call_argument, literal_argument, logical_argument, no_arguments}
use Rattle.jp_tree.specs.Tree.{query_argument}
use Rattle.jp_check.specs.Functions.{function_named}
use Rattle.jp_check.specs.declared.profile.Profile.TheVariants.{Extended}
use Rattle.jp_tree.specs.declared.function.Function.{Function}
use Rattle.jp_tree.specs.declared.function.Function.TheVariants.{Distinct}
use Rattle.jp_evaluate.specs.Functions.{without_repeats}

-- the function that a call names
abbrev pub call_function : CallTree → Option Function
call_function (call cs xs) = function_named Extended cs

-- a query, and whether each of its nodes counts once
abbrev pub NodesQuery : Type 0
NodesQuery = QueryTree × Bool

-- the nodes that count
abbrev pub counted : Bool → List Node → List Node
counted false ns = ns
counted true ns = without_repeats ns

-- each of its nodes counts once, if the function is `distinct`; other functions answer no nodes
abbrev pub once : Option Function → Option NodesQuery → Option NodesQuery
once (Some Distinct) o = option_map (λ p. (p.0, true)) o
once _ o = None

-- the query whose nodes an argument stands for, or a call answers
abbrev mutual
  pub argument_query : ArgumentTree → Option NodesQuery
  argument_query (query_argument q) = Some (q, false)
  argument_query (literal_argument x) = None
  argument_query (call_argument f) = call_query f
  argument_query (logical_argument e) = None

  pub call_query : CallTree → Option NodesQuery
  call_query (call cs (argument_then x no_arguments)) =
      once (function_named Extended cs) (argument_query x)
  call_query (call cs _) = None

-- the argument of a call that has one
abbrev pub only_argument : CallTree → Option ArgumentTree
only_argument (call cs (argument_then x no_arguments)) = Some x
only_argument (call cs _) = None

-- the arguments of a call that has two
abbrev pub both_arguments : CallTree → Option (ArgumentTree × ArgumentTree)
both_arguments (call cs (argument_then x (argument_then y no_arguments))) = Some (x, y)
both_arguments (call cs _) = None
