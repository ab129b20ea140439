-- The components of a query's tree, in the order in which they begin in a text.
use Rattle.std.specs.Prelude.{ℕ, zero, suc, Option, List, [], ◌∷◌, ◌++◌, Some, None}
use Rattle.jp_tree.specs.declared.tree.Numeral.{Numeral}
use Rattle.jp_tree.specs.Tree.{SelectorTree, name, wildcard, index, slice, filter, SelectorTrees}
use Rattle.jp_tree.specs.Tree.{no_selectors, selector_then, SegmentTree, segment, SegmentTrees}
use Rattle.jp_tree.specs.Tree.{no_segments, segment_then, QueryTree, query, ExprTree, any_of}
use Rattle.jp_tree.specs.Tree.{all_of, negation, comparison, exists, call_test, ExprTrees}
use Rattle.jp_tree.specs.Tree.{no_exprs, expr_then, OperandTree, literal, node_value, call_value}
use Rattle.jp_tree.specs.Tree.{CallTree, call, ArgumentTree, literal_argument, query_argument}
use Rattle.jp_tree.specs.Tree.{call_argument, logical_argument, ArgumentTrees, no_arguments}
use Rattle.jp_tree.specs.Tree.{argument_then, LiteralTree}

-- what a component is there for: an index (RFC 9535 section 2.3.3), a bound or the step of a slice
-- (section 2.3.4), a side of a comparison or a test (section 2.3.5), or an argument (section 2.4):
-- of the function of that name, the one after so many others, of so many in all
pub data Use : Type 0 where
  as_index : Use
  as_bound : Use
  as_step : Use
  as_side : Use
  as_test : Use
  as_argument : List ℕ → ℕ → ℕ → Use

-- a component: a whole number, a literal, a query inside another, a function expression, or a logical
-- expression that is an argument, and its use
pub data QueryComponent : Type 0 where
  int : Numeral → Use → QueryComponent
  constant : LiteralTree → Use → QueryComponent
  inner : QueryTree → Use → QueryComponent
  called : CallTree → Use → QueryComponent
  logical : ExprTree → Use → QueryComponent

-- a bound of a slice, if it is there
abbrev pub bound_components : Option Numeral → List QueryComponent
bound_components None = []
bound_components (Some i) = int i as_bound ∷ []

-- how many arguments there are
abbrev pub count : ArgumentTrees → ℕ
count no_arguments = zero
count (argument_then x rest) = suc (count rest)

-- an inner query, a function expression and a logical expression come before what is in them, all
-- else from left to right
abbrev mutual
  -- a slice has its step among its components also where the text omits it
  pub selector_components : SelectorTree → List QueryComponent
  selector_components (name cs) = []
  selector_components wildcard = []
  selector_components (index i) = int i as_index ∷ []
  selector_components (slice parts) =
      bound_components parts.start ++ bound_components parts.end ++ int parts.step as_step ∷ []
  selector_components (filter e) = expr_components e

  pub selectors_components : SelectorTrees → List QueryComponent
  selectors_components no_selectors = []
  selectors_components (selector_then x rest) = selector_components x ++ selectors_components rest

  pub segment_components : SegmentTree → List QueryComponent
  segment_components (segment descendant all) = selectors_components all

  pub segments_components : SegmentTrees → List QueryComponent
  segments_components no_segments = []
  segments_components (segment_then x rest) = segment_components x ++ segments_components rest

  -- the components of a query
  pub components_of : QueryTree → List QueryComponent
  components_of (query absolute all) = segments_components all

  pub expr_components : ExprTree → List QueryComponent
  expr_components (any_of es) = exprs_components es
  expr_components (all_of es) = exprs_components es
  expr_components (negation e) = expr_components e
  expr_components (comparison left op right) = operand_components left ++ operand_components right
  expr_components (exists q) = inner q as_test ∷ components_of q
  expr_components (call_test c) = called c as_test ∷ call_components c

  pub exprs_components : ExprTrees → List QueryComponent
  exprs_components no_exprs = []
  exprs_components (expr_then e rest) = expr_components e ++ exprs_components rest

  pub operand_components : OperandTree → List QueryComponent
  operand_components (literal l) = constant l as_side ∷ []
  operand_components (node_value q) = inner q as_side ∷ components_of q
  operand_components (call_value c) = called c as_side ∷ call_components c

  -- the components in a function expression: those of its arguments
  pub call_components : CallTree → List QueryComponent
  call_components (call function all) = arguments_components function zero (count all) all

  pub arguments_components : List ℕ → ℕ → ℕ → ArgumentTrees → List QueryComponent
  arguments_components function before in_all no_arguments = []
  arguments_components function before in_all (argument_then x rest) =
      argument_components (as_argument function before in_all) x
      ++ arguments_components function (suc before) in_all rest

  pub argument_components : Use → ArgumentTree → List QueryComponent
  argument_components u (literal_argument l) = constant l u ∷ []
  argument_components u (query_argument q) = inner q u ∷ components_of q
  argument_components u (call_argument c) = called c u ∷ call_components c
  argument_components u (logical_argument e) = logical e u ∷ expr_components e
