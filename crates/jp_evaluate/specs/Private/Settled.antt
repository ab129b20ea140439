-- Queries whose filters have answers in the places of absolute queries, and mean the same at each
-- value that is tested. d is the document's value throughout.
use Rattle.std.specs.Prelude.{pos, Bool, true, false, not, ◌&&◌, if◌then◌else◌, List, [], ◌∷◌}
use Rattle.std.specs.Prelude.{Option, Some, None, is_some, length, option_and_then, option_map}
use Rattle.jp_document.specs.Node.{Node}
use Rattle.jp_document.specs.Value.{Value}
use Rattle.jp_tree.specs.declared.function.Function.{Function}
use Rattle.jp_tree.specs.declared.function.Function.TheVariants.{Count, ValueOf}
use Rattle.jp_tree.specs.declared.tree.Numeral.TheVariants.{Whole}
use Rattle.jp_tree.specs.Tree.{ArgumentTree, ArgumentTrees, CallTree, ExprTree, ExprTrees}
use Rattle.jp_tree.specs.Tree.{LiteralTree, OperandTree, QueryTree, SegmentTree, SegmentTrees}
use Rattle.jp_tree.specs.Tree.{SelectorTree, SelectorTrees, all_of, any_of, argument_then, call}
use Rattle.jp_tree.specs.Tree.{call_argument, call_test, call_value, comparison, exists, expr_then}
use Rattle.jp_tree.specs.Tree.{filter, literal, literal_argument, logical_argument, negation}
use Rattle.jp_tree.specs.Tree.{no_arguments, no_exprs, no_segments, no_selectors, node_value}
use Rattle.jp_tree.specs.Tree.{number, query, query_argument, segment, segment_then, selector_then}
use Rattle.jp_select.specs.Comparison.{equals}
use Rattle.jp_evaluate.specs.Named.{location_named}
use Rattle.jp_evaluate.specs.Nodelist.{has_node, nodelist, single_node_value}
use Rattle.jp_evaluate.specs.Private.Calls.{NodesQuery, argument_query, call_function, call_query}
use Rattle.jp_evaluate.specs.Private.Calls.{counted, only_argument}
use Rattle.jp_evaluate.specs.Private.PathTrees.{path_tree}

-- ---- what is asked once

-- a query that gives the same at each value, and names no location
abbrev pub is_asked_once : QueryTree → Bool
is_asked_once (query absolute all) = absolute && not (is_some (location_named (query absolute all)))

abbrev pub query_once : Option QueryTree → Option QueryTree
query_once None = None
query_once (Some q) = if is_asked_once q then Some q else None

abbrev pub nodes_once : Option NodesQuery → Option NodesQuery
nodes_once None = None
nodes_once (Some p) = if is_asked_once p.0 then Some p else None

-- its nodes that count
abbrev pub nodes_counted : Value → NodesQuery → List Node
nodes_counted d p = counted p.1 (nodelist p.0 d)

-- ---- tests

-- the query that a test asks for
abbrev pub test_query : ExprTree → Option QueryTree
test_query (exists q) = Some q
test_query (call_test f) = option_map (λ p. p.0) (call_query f)
test_query _ = None

-- the expression that is true of each value, or of none
abbrev pub truth : Bool → ExprTree
truth true = all_of no_exprs
truth false = any_of no_exprs

abbrev pub test_answer : Value → ExprTree → Option QueryTree → ExprTree
test_answer d e None = e
test_answer d e (Some q) = truth (has_node (nodelist q d))

abbrev pub settled_test : Value → ExprTree → ExprTree
settled_test d e = test_answer d e (query_once (test_query e))

-- ---- calls of `count`

-- the query whose nodes a call is given, where it has one argument
abbrev pub given_query : CallTree → Option NodesQuery
given_query f = option_and_then argument_query (only_argument f)

abbrev pub count_nodes : Option Function → Option NodesQuery → Option NodesQuery
count_nodes (Some Count) o = nodes_once o
count_nodes _ o = None

-- how many nodes a query has of those that count
abbrev pub count_literal : Value → NodesQuery → LiteralTree
count_literal d p = number (Whole (pos (length (nodes_counted d p))))

abbrev pub count_answer : Value → CallTree → Option LiteralTree
count_answer d f = option_map (count_literal d) (count_nodes (call_function f) (given_query f))

abbrev pub count_operand : CallTree → Option LiteralTree → OperandTree
count_operand f None = call_value f
count_operand f (Some x) = literal x

abbrev pub count_argument : CallTree → Option LiteralTree → ArgumentTree
count_argument f None = call_argument f
count_argument f (Some x) = literal_argument x

-- ---- calls of `value`

abbrev pub value_nodes : Option Function → Option NodesQuery → Option NodesQuery
value_nodes (Some ValueOf) o = nodes_once o
value_nodes _ o = None

-- the only node of a list
abbrev pub only_node : List Node → Option Node
only_node (n ∷ []) = Some n
only_node _ = None

-- the path of a node leads to its value
abbrev pub is_at_path : Value → QueryTree → Value → Bool
is_at_path d q v = equals (single_node_value q (nodelist q d)) (Some v)

-- no argument where there is no such node, and else its path, where that leads to its value
abbrev pub path_arguments : Value → Option Node → Option ArgumentTrees
path_arguments d None = Some no_arguments
path_arguments d (Some n) =
    if is_at_path d (path_tree n.location) n.value
    then Some (argument_then (query_argument (path_tree n.location)) no_arguments)
    else None

abbrev pub with_arguments : CallTree → Option ArgumentTrees → CallTree
with_arguments f None = f
with_arguments (call cs xs) (Some ys) = call cs ys

abbrev pub value_call : Value → CallTree → Option NodesQuery → CallTree
value_call d f None = f
value_call d f (Some p) =
    with_arguments f (path_arguments d (only_node (nodes_counted d p)))

abbrev pub settled_value : Value → CallTree → CallTree
settled_value d f = value_call d f (value_nodes (call_function f) (given_query f))

-- ---- all of a query

abbrev mutual
  pub settled_selector : Value → SelectorTree → SelectorTree
  settled_selector d (filter e) = filter (settled_expr d e)
  settled_selector d s = s

  pub settled_selectors : Value → SelectorTrees → SelectorTrees
  settled_selectors d no_selectors = no_selectors
  settled_selectors d (selector_then s rest) =
      selector_then (settled_selector d s) (settled_selectors d rest)

  pub settled_segment : Value → SegmentTree → SegmentTree
  settled_segment d (segment descendant ss) = segment descendant (settled_selectors d ss)

  pub settled_segments : Value → SegmentTrees → SegmentTrees
  settled_segments d no_segments = no_segments
  settled_segments d (segment_then s rest) =
      segment_then (settled_segment d s) (settled_segments d rest)

  pub settled_query : Value → QueryTree → QueryTree
  settled_query d (query absolute all) = query absolute (settled_segments d all)

  pub settled_expr : Value → ExprTree → ExprTree
  settled_expr d (any_of es) = any_of (settled_exprs d es)
  settled_expr d (all_of es) = all_of (settled_exprs d es)
  settled_expr d (negation e) = negation (settled_expr d e)
  settled_expr d (comparison left op right) =
      comparison (settled_operand d left) op (settled_operand d right)
  settled_expr d (exists q) = settled_test d (exists (settled_query d q))
  settled_expr d (call_test f) = settled_test d (call_test (settled_call d f))

  pub settled_exprs : Value → ExprTrees → ExprTrees
  settled_exprs d no_exprs = no_exprs
  settled_exprs d (expr_then e rest) = expr_then (settled_expr d e) (settled_exprs d rest)

  pub settled_operand : Value → OperandTree → OperandTree
  settled_operand d (literal x) = literal x
  settled_operand d (node_value q) = node_value (settled_query d q)
  settled_operand d (call_value f) =
      count_operand (settled_call d f) (count_answer d (settled_call d f))

  pub settled_call : Value → CallTree → CallTree
  settled_call d (call cs xs) = settled_value d (call cs (settled_arguments d xs))

  pub settled_argument : Value → ArgumentTree → ArgumentTree
  settled_argument d (literal_argument x) = literal_argument x
  settled_argument d (query_argument q) = query_argument (settled_query d q)
  settled_argument d (call_argument f) =
      count_argument (settled_call d f) (count_answer d (settled_call d f))
  settled_argument d (logical_argument e) = logical_argument (settled_expr d e)

  pub settled_arguments : Value → ArgumentTrees → ArgumentTrees
  settled_arguments d no_arguments = no_arguments
  settled_arguments d (argument_then x rest) =
      argument_then (settled_argument d x) (settled_arguments d rest)
