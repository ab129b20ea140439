-- The sizes of queries, by which the evaluation of filters ends.
use Rattle.std.specs.Prelude.{ℕ, suc, ◌+◌}
use Rattle.jp_tree.specs.Tree.{ArgumentTree, ArgumentTrees, CallTree, ExprTree, ExprTrees}
use Rattle.jp_tree.specs.Tree.{OperandTree, QueryTree, SegmentTree, SegmentTrees, SelectorTree}
use Rattle.jp_tree.specs.Tree.{SelectorTrees, all_of, any_of, argument_then, call, call_argument}
use Rattle.jp_tree.specs.Tree.{call_test, call_value, comparison, exists, expr_then, filter, index}
use Rattle.jp_tree.specs.Tree.{literal, literal_argument, logical_argument, name, negation}
use Rattle.jp_tree.specs.Tree.{no_arguments, no_exprs, no_segments, no_selectors, node_value}
use Rattle.jp_tree.specs.Tree.{query, query_argument, segment, segment_then, selector_then, slice}
use Rattle.jp_tree.specs.Tree.{wildcard}

abbrev mutual
  pub selector_size : SelectorTree → ℕ
  selector_size (name cs) = 1
  selector_size wildcard = 1
  selector_size (index i) = 1
  selector_size (slice s) = 2
  selector_size (filter e) = suc (expr_size e)

  pub selectors_size : SelectorTrees → ℕ
  selectors_size no_selectors = 0
  selectors_size (selector_then s rest) = suc (selector_size s + selectors_size rest)

  pub segment_size : SegmentTree → ℕ
  segment_size (segment descendant ss) = suc (suc (selectors_size ss))

  pub segments_size : SegmentTrees → ℕ
  segments_size no_segments = 0
  segments_size (segment_then s rest) = segment_size s + segments_size rest

  pub query_size : QueryTree → ℕ
  query_size (query absolute all) = suc (suc (suc (suc (segments_size all))))

  pub expr_size : ExprTree → ℕ
  expr_size (any_of es) = suc (exprs_size es)
  expr_size (all_of es) = suc (exprs_size es)
  expr_size (negation e) = suc (expr_size e)
  expr_size (comparison left op right) = suc (operand_size left + operand_size right)
  expr_size (exists q) = suc (query_size q)
  expr_size (call_test f) = suc (call_size f)

  pub exprs_size : ExprTrees → ℕ
  exprs_size no_exprs = 0
  exprs_size (expr_then e rest) = suc (expr_size e + exprs_size rest)

  pub operand_size : OperandTree → ℕ
  operand_size (literal x) = 1
  operand_size (node_value q) = 1
  operand_size (call_value f) = suc (call_size f)

  pub call_size : CallTree → ℕ
  call_size (call cs xs) = suc (arguments_size xs)

  pub argument_size : ArgumentTree → ℕ
  argument_size (literal_argument x) = 1
  argument_size (query_argument q) = suc (query_size q)
  argument_size (call_argument f) = suc (call_size f)
  argument_size (logical_argument e) = 1

  pub arguments_size : ArgumentTrees → ℕ
  arguments_size no_arguments = 0
  arguments_size (argument_then x rest) = suc (argument_size x + arguments_size rest)
