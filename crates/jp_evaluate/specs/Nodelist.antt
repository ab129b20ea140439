-- The nodelist of a query (RFC 9535 section 2.1.2).
use Rattle.std.specs.Prelude.{ℕ, Bool, true, false, not, ◌&&◌, ◌||◌, if◌then◌else◌, List}
use Rattle.std.specs.Prelude.{[], ◌∷◌, ◌++◌, filter as those_of, Option, Some, None, option_map}
use Rattle.std.specs.List.{flat_map}
use Rattle.std.specs.Str.{encode_utf8_all}
use Rattle.jp_document.specs.Node.{Node, children, root_of}
use Rattle.jp_document.specs.Value.{Value, null, boolean, whole, decimal, text as text_value}
use Rattle.jp_tree.specs.Singular.{is_singular}
use Rattle.jp_tree.specs.Tree.{ArgumentTree, CallTree, ExprTree, ExprTrees, LiteralTree}
use Rattle.jp_tree.specs.Tree.{OperandTree, QueryTree, SegmentTree, SegmentTrees, SelectorTree}
use Rattle.jp_tree.specs.Tree.{SelectorTrees, all_of, any_of, argument_then, call, call_argument}
use Rattle.jp_tree.specs.Tree.{call_test, call_value, comparison, exists, expr_then, false_literal}
use Rattle.jp_tree.specs.Tree.{filter, literal, literal_argument, logical_argument, negation}
use Rattle.jp_tree.specs.Tree.{no_arguments, no_exprs, no_segments, no_selectors, node_value}
use Rattle.jp_tree.specs.Tree.{null_literal, number, query, query_argument, segment, segment_then}
use Rattle.jp_tree.specs.Tree.{selector_then, text, true_literal}
use Rattle.jp_decimal.specs.declared.number.Number.TheVariants.{Whole as AsWhole, Decimal as AsDecimal}
use Rattle.jp_tree.specs.declared.tree.Numeral.TheVariants.{Whole, Beyond, Fraction}
use Rattle.jp_check.specs.Functions.{function_named}
use Rattle.jp_check.specs.declared.profile.Profile.TheVariants.{Extended}
use Rattle.jp_select.specs.Subtree.{subtree_of}
use Rattle.jp_select.specs.Comparison.{compared}
use Rattle.jp_select.specs.Selectors.{chosen}
use Rattle.jp_evaluate.specs.Functions.{Meaning, logical_answer, meaning, nodes_answer, only_value}
use Rattle.jp_evaluate.specs.Functions.{value_answer}

-- the nodes at which a segment applies its selectors: a child segment at the nodes themselves
-- (section 2.5.1.2), a descendant segment at each node and its descendants (section 2.5.2.2)
abbrev pub visited : Bool → List Node → List Node
visited false ns = ns
visited true ns = flat_map subtree_of ns

-- where a query begins: at the root, or, with `@`, at the current node c (sections 2.2.2 and 2.3.5)
abbrev pub start_of : Bool → Value → Node → Node
start_of true d c = root_of d
start_of false d c = c

-- there is a node in the list (section 2.3.5.2.1)
abbrev pub has_node : List Node → Bool
has_node [] = false
has_node (n ∷ ns) = true

-- the same where there may be no list
abbrev pub some_node : Option (List Node) → Bool
some_node None = false
some_node (Some ns) = has_node ns

-- the value of the node of a singular query's nodelist, Nothing where that is empty; other queries
-- have none (section 2.3.5.1)
abbrev pub single_node_value : QueryTree → List Node → Option Value
single_node_value q ns = if is_singular q then only_value ns else None

-- the value of a literal (section 2.3.5.1); a number that can't be held has none here
abbrev pub literal_value : LiteralTree → Option Value
literal_value (number (Whole z)) = Some (whole z)
literal_value (number (Beyond (Some d))) = Some (decimal d.coefficient d.exponent)
literal_value (number (Fraction (Some (AsWhole z)))) = Some (whole z)
literal_value (number (Fraction (Some (AsDecimal d)))) = Some (decimal d.coefficient d.exponent)
literal_value (number _) = None
literal_value (text cs) = Some (text_value (encode_utf8_all cs))
literal_value true_literal = Some (boolean true)
literal_value false_literal = Some (boolean false)
literal_value null_literal = Some null

-- the meaning of the function of that name, given as scalar values. The functions of `Extended` are
-- all that there are. Which of them a query may call depends on its profile, and is said by what is
-- accepted in it; here each has its meaning
abbrev pub meaning_named : List ℕ → Option Meaning
meaning_named name = option_map meaning (function_named Extended name)

-- d is the document's value throughout, c the current node
abbrev mutual
  -- what a selector selects at n: a filter the children of which its expression is true, in their
  -- order (section 2.3.5.2), any other selector what it chooses by itself
  pub selection : SelectorTree → Value → Node → List Node
  selection (filter e) d n = those_of (holds e d) (children n)
  selection s d n = chosen s n

  -- what selectors select at n: what each selects, in their order (section 2.5.1.2)
  pub selected : SelectorTrees → Value → Node → List Node
  selected no_selectors d n = []
  selected (selector_then s rest) d n = selection s d n ++ selected rest d n

  -- what a segment gives from a list of nodes: what it selects at each node that it visits, joined
  -- in their order (section 2.5)
  pub segment_result : SegmentTree → Value → List Node → List Node
  segment_result (segment descendant ss) d ns = flat_map (selected ss d) (visited descendant ns)

  -- what segments give from a list of nodes: each takes the list that the one before it gave
  -- (section 2.1.2)
  pub result : SegmentTrees → Value → List Node → List Node
  result no_segments d ns = ns
  result (segment_then s rest) d ns = result rest d (segment_result s d ns)

  -- the nodelist of a query: what its segments give from the node at which it begins (section
  -- 2.1.2)
  pub nodelist_at : QueryTree → Value → Node → List Node
  nodelist_at (query absolute all) d c = result all d (start_of absolute d c ∷ [])

  -- whether an expression is true (section 2.3.5.2)
  pub holds : ExprTree → Value → Node → Bool
  holds (any_of es) d c = any_holds es d c
  holds (all_of es) d c = all_hold es d c
  holds (negation e) d c = not (holds e d c)
  holds (comparison left op right) d c =
      compared op (operand_value left d c) (operand_value right d c)
  holds (exists q) d c = has_node (nodelist_at q d c)
  holds (call_test f) d c = call_holds f d c || some_node (call_nodes f d c)

  -- one of the expressions is true
  pub any_holds : ExprTrees → Value → Node → Bool
  any_holds no_exprs d c = false
  any_holds (expr_then e rest) d c = holds e d c || any_holds rest d c

  -- all of the expressions are true
  pub all_hold : ExprTrees → Value → Node → Bool
  all_hold no_exprs d c = true
  all_hold (expr_then e rest) d c = holds e d c && all_hold rest d c

  -- the value of a side of a comparison: that of the literal, of a singular query's node, or what
  -- the function answers (section 2.3.5.2.2); other queries have none
  pub operand_value : OperandTree → Value → Node → Option Value
  operand_value (literal x) d c = literal_value x
  operand_value (node_value q) d c = single_node_value q (nodelist_at q d c)
  operand_value (call_value f) d c = call_answer f d c

  -- the value that a function answers (section 2.4); a call that is not well-typed as a value has
  -- none
  pub call_answer : CallTree → Value → Node → Option Value
  call_answer (call cs (argument_then x no_arguments)) d c =
      value_answer (meaning_named cs) (argument_value x d c) (argument_nodes x d c)
  call_answer (call cs _) d c = None

  -- whether a function answers true (section 2.4); a call that is not well-typed as a test is false
  -- here, and so is one of `distinct`, which answers nodes: as a test it is true where there are some
  pub call_holds : CallTree → Value → Node → Bool
  call_holds (call cs (argument_then x (argument_then y no_arguments))) d c =
      logical_answer (meaning_named cs) (argument_value x d c) (argument_value y d c)
  call_holds (call cs _) d c = false

  -- the nodes that a function answers (section 2.4.1); a call that is not well-typed as nodes has
  -- none
  pub call_nodes : CallTree → Value → Node → Option (List Node)
  call_nodes (call cs (argument_then x no_arguments)) d c =
      nodes_answer (meaning_named cs) (argument_nodes x d c)
  call_nodes (call cs _) d c = None

  -- the value that an argument stands for (section 2.4.3)
  pub argument_value : ArgumentTree → Value → Node → Option Value
  argument_value (literal_argument x) d c = literal_value x
  argument_value (query_argument q) d c = single_node_value q (nodelist_at q d c)
  argument_value (call_argument f) d c = call_answer f d c
  argument_value (logical_argument e) d c = None

  -- the nodes that an argument stands for (section 2.4.3), where it is a query or a call that
  -- answers nodes
  pub argument_nodes : ArgumentTree → Value → Node → Option (List Node)
  argument_nodes (query_argument q) d c = Some (nodelist_at q d c)
  argument_nodes (literal_argument x) d c = None
  argument_nodes (call_argument f) d c = call_nodes f d c
  argument_nodes (logical_argument e) d c = None

-- the nodelist of a whole query over the document's value d: it begins at the root (section 2.2.2)
abbrev pub nodelist : QueryTree → Value → List Node
nodelist q d = nodelist_at q d (root_of d)
