-- The trees of queries, as the definitions speak of them (RFC 9535 sections 2.1 to 2.5). The lists
-- have types of their own, so that each kind of tree may hold each other one.
use Rattle.std.specs.Prelude.{ℕ, Bool, List, [], ◌∷◌}
use Rattle.jp_tree.specs.declared.tree.Numeral.{Numeral}
use Rattle.jp_tree.specs.declared.tree.Slice.{Slice}
use Rattle.jp_tree.specs.declared.tree.Op.{Op}

-- a literal (section 2.3.5.1): a number, a text as scalar values, or one of the three words
pub data LiteralTree : Type 0 where
  number : Numeral → LiteralTree
  text : List ℕ → LiteralTree
  true_literal : LiteralTree
  false_literal : LiteralTree
  null_literal : LiteralTree

mutual
  -- a selector (section 2.3): a member's name as scalar values, all children, an index, a slice, or
  -- a filter
  pub data SelectorTree : Type 0 where
    name : List ℕ → SelectorTree
    wildcard : SelectorTree
    index : Numeral → SelectorTree
    slice : Slice → SelectorTree
    filter : ExprTree → SelectorTree

  -- the selectors of a segment, in order
  pub data SelectorTrees : Type 0 where
    no_selectors : SelectorTrees
    selector_then : SelectorTree → SelectorTrees → SelectorTrees

  -- a segment (section 2.5): whether it is a descendant segment, and its selectors
  pub data SegmentTree : Type 0 where
    segment : Bool → SelectorTrees → SegmentTree

  -- the segments of a query, in order
  pub data SegmentTrees : Type 0 where
    no_segments : SegmentTrees
    segment_then : SegmentTree → SegmentTrees → SegmentTrees

  -- a query (section 2.1): whether it is absolute, and its segments
  pub data QueryTree : Type 0 where
    query : Bool → SegmentTrees → QueryTree

  -- a logical expression (section 2.3.5.1): `||`, `&&` and `!` of others, a comparison, or a test:
  -- whether a query selects a node, or what a function answers
  pub data ExprTree : Type 0 where
    any_of : ExprTrees → ExprTree
    all_of : ExprTrees → ExprTree
    negation : ExprTree → ExprTree
    comparison : OperandTree → Op → OperandTree → ExprTree
    exists : QueryTree → ExprTree
    call_test : CallTree → ExprTree

  -- the parts of an expression, in order
  pub data ExprTrees : Type 0 where
    no_exprs : ExprTrees
    expr_then : ExprTree → ExprTrees → ExprTrees

  -- a side of a comparison (section 2.3.5.1): a literal, the value of a query's node, or what a
  -- function answers
  pub data OperandTree : Type 0 where
    literal : LiteralTree → OperandTree
    node_value : QueryTree → OperandTree
    call_value : CallTree → OperandTree

  -- a function expression (section 2.4): the function's name as scalar values, and its arguments
  pub data CallTree : Type 0 where
    call : List ℕ → ArgumentTrees → CallTree

  -- an argument of a function (section 2.4)
  pub data ArgumentTree : Type 0 where
    literal_argument : LiteralTree → ArgumentTree
    query_argument : QueryTree → ArgumentTree
    call_argument : CallTree → ArgumentTree
    logical_argument : ExprTree → ArgumentTree

  -- the arguments of a function, in order
  pub data ArgumentTrees : Type 0 where
    no_arguments : ArgumentTrees
    argument_then : ArgumentTree → ArgumentTrees → ArgumentTrees

-- a list of selectors as the tree holds it
abbrev pub selectors : List SelectorTree → SelectorTrees
selectors [] = no_selectors
selectors (x ∷ xs) = selector_then x (selectors xs)

-- a list of segments as the tree holds it
abbrev pub segments : List SegmentTree → SegmentTrees
segments [] = no_segments
segments (x ∷ xs) = segment_then x (segments xs)

-- a list of expressions as the tree holds it
abbrev pub exprs : List ExprTree → ExprTrees
exprs [] = no_exprs
exprs (x ∷ xs) = expr_then x (exprs xs)

-- a list of arguments as the tree holds it
abbrev pub arguments : List ArgumentTree → ArgumentTrees
arguments [] = no_arguments
arguments (x ∷ xs) = argument_then x (arguments xs)
