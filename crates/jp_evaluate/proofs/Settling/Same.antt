-- A query with answers in its filters has the nodelist that it had.
use Rattle.std.proofs.Common.{◌≡◌, ◌++◌, Bool, true, false, not, ◌&&◌, ◌||◌, if◌then◌else◌, List}
use Rattle.std.proofs.Common.{ℕ, [], ◌∷◌, Option, Some, None, refl, ap, ap₂, ◌∙◌}
use Rattle.std.specs.List.{filter as those_of, flat_map}
use Rattle.std.proofs.Math.Path.{fun_ext}
use Rattle.jp_document.specs.Node.{Node, children}
use Rattle.jp_document.specs.Value.{Value}
use Rattle.jp_tree.specs.Singular.{are_single, is_single, is_single_segment, is_singular}
use Rattle.jp_tree.specs.Tree.{ArgumentTree, ArgumentTrees, CallTree, ExprTree, ExprTrees}
use Rattle.jp_tree.specs.Tree.{OperandTree, QueryTree, SegmentTree, SegmentTrees, SelectorTree}
use Rattle.jp_tree.specs.Tree.{SelectorTrees, all_of, any_of, argument_then, call, call_argument}
use Rattle.jp_tree.specs.Tree.{call_test, call_value, comparison, exists, expr_then, filter, index}
use Rattle.jp_tree.specs.Tree.{literal, literal_argument, logical_argument, name, negation}
use Rattle.jp_tree.specs.Tree.{no_arguments, no_exprs, no_segments, no_selectors, node_value}
use Rattle.jp_tree.specs.Tree.{query, query_argument, segment, segment_then, selector_then, slice}
use Rattle.jp_tree.specs.Tree.{wildcard}
use Rattle.jp_select.specs.Comparison.{compared}
use Rattle.jp_evaluate.specs.Functions.{logical_answer, nodes_answer, only_value, value_answer}
use Rattle.jp_evaluate.specs.Nodelist.{all_hold, any_holds, argument_nodes, argument_value}
use Rattle.jp_evaluate.specs.Nodelist.{call_answer, call_holds, call_nodes, has_node, holds}
use Rattle.jp_evaluate.specs.Nodelist.{meaning_named, nodelist_at, operand_value, result}
use Rattle.jp_evaluate.specs.Nodelist.{segment_result, selected, selection, some_node, start_of, visited}
use Rattle.jp_evaluate.specs.Private.Settled.{settled_argument}
use Rattle.jp_evaluate.specs.Private.Settled.{settled_arguments, settled_call, settled_expr}
use Rattle.jp_evaluate.specs.Private.Settled.{settled_exprs, settled_operand, settled_query}
use Rattle.jp_evaluate.specs.Private.Settled.{settled_segment, settled_segments, settled_selector}
use Rattle.jp_evaluate.specs.Private.Settled.{settled_selectors}
use Rattle.jp_evaluate.proofs.Settling.Answers.{argument-same, argument_nodes-same, count-same}
use Rattle.jp_evaluate.proofs.Settling.Answers.{test-same}
use Rattle.jp_evaluate.proofs.Settling.Values.{value-same}

-- ---- a singular query stays one

selector-single : (s : SelectorTree) (d : Value) → is_single (settled_selector d s) ≡ is_single s
selector-single (name cs) d = refl
selector-single wildcard d = refl
selector-single (index i) d = refl
selector-single (slice s) d = refl
selector-single (filter e) d = refl

segment-single : (s : SegmentTree) (d : Value)
    → is_single_segment (settled_segment d s) ≡ is_single_segment s
segment-single (segment true ss) d = refl
segment-single (segment false no_selectors) d = refl
segment-single (segment false (selector_then s no_selectors)) d = selector-single s d
segment-single (segment false (selector_then s (selector_then t rest))) d = refl

segments-single : (all : SegmentTrees) (d : Value)
    → are_single (settled_segments d all) ≡ are_single all
segments-single no_segments d = refl
segments-single (segment_then s rest) d =
    ap₂ (λ x y. x && y) (segment-single s d) (segments-single rest d)

query-single : (q : QueryTree) (d : Value) → is_singular (settled_query d q) ≡ is_singular q
query-single (query absolute all) d = segments-single all d

-- ---- each part means the same

abbrev single : Bool → List Node → Option Value
single b ns = if b then only_value ns else None

mutual
  selection-same : (s : SelectorTree) (d : Value) (n : Node)
      → selection (settled_selector d s) d n ≡ selection s d n
  selection-same (name cs) d n = refl
  selection-same wildcard d n = refl
  selection-same (index i) d n = refl
  selection-same (slice s) d n = refl
  selection-same (filter e) d n =
      ap (λ (t : Node → Bool). those_of t (children n)) (fun_ext (expr-same e d))

  selected-same : (ss : SelectorTrees) (d : Value) (n : Node)
      → selected (settled_selectors d ss) d n ≡ selected ss d n
  selected-same no_selectors d n = refl
  selected-same (selector_then s rest) d n =
      ap₂ (λ x y. x ++ y) (selection-same s d n) (selected-same rest d n)

  segment-same : (s : SegmentTree) (d : Value) (ns : List Node)
      → segment_result (settled_segment d s) d ns ≡ segment_result s d ns
  segment-same (segment descendant ss) d ns =
      ap (λ (f : Node → List Node). flat_map f (visited descendant ns))
      (fun_ext (selected-same ss d))

  result-same : (all : SegmentTrees) (d : Value) (ns : List Node)
      → result (settled_segments d all) d ns ≡ result all d ns
  result-same no_segments d ns = refl
  result-same (segment_then s rest) d ns =
      ap (result (settled_segments d rest) d) (segment-same s d ns)
      ∙ result-same rest d (segment_result s d ns)

  pub query-same : (q : QueryTree) (d : Value) (c : Node)
      → nodelist_at (settled_query d q) d c ≡ nodelist_at q d c
  query-same (query absolute all) d c = result-same all d (start_of absolute d c ∷ [])

  expr-same : (e : ExprTree) (d : Value) (c : Node) → holds (settled_expr d e) d c ≡ holds e d c
  expr-same (any_of es) d c = any-same es d c
  expr-same (all_of es) d c = all-same es d c
  expr-same (negation e) d c = ap not (expr-same e d c)
  expr-same (comparison left op right) d c =
      ap₂ (compared op) (operand-same left d c) (operand-same right d c)
  expr-same (exists q) d c =
      test-same (exists (settled_query d q)) d c ∙ ap has_node (query-same q d c)
  expr-same (call_test f) d c =
      test-same (call_test (settled_call d f)) d c
      ∙ ap₂ (λ b o. b || some_node o) (holds-same f d c) (nodes-same f d c)

  any-same : (es : ExprTrees) (d : Value) (c : Node)
      → any_holds (settled_exprs d es) d c ≡ any_holds es d c
  any-same no_exprs d c = refl
  any-same (expr_then e rest) d c = ap₂ (λ x y. x || y) (expr-same e d c) (any-same rest d c)

  all-same : (es : ExprTrees) (d : Value) (c : Node)
      → all_hold (settled_exprs d es) d c ≡ all_hold es d c
  all-same no_exprs d c = refl
  all-same (expr_then e rest) d c = ap₂ (λ x y. x && y) (expr-same e d c) (all-same rest d c)

  operand-same : (x : OperandTree) (d : Value) (c : Node)
      → operand_value (settled_operand d x) d c ≡ operand_value x d c
  operand-same (literal x) d c = refl
  operand-same (node_value q) d c = ap₂ single (query-single q d) (query-same q d c)
  operand-same (call_value f) d c = count-same (settled_call d f) d c ∙ answer-same f d c

  answer-same : (f : CallTree) (d : Value) (c : Node)
      → call_answer (settled_call d f) d c ≡ call_answer f d c
  answer-same (call cs xs) d c =
      (value-same (call cs (settled_arguments d xs)) d c).value ∙ arguments_answer-same cs xs d c

  holds-same : (f : CallTree) (d : Value) (c : Node)
      → call_holds (settled_call d f) d c ≡ call_holds f d c
  holds-same (call cs xs) d c =
      (value-same (call cs (settled_arguments d xs)) d c).truth ∙ arguments_hold-same cs xs d c

  nodes-same : (f : CallTree) (d : Value) (c : Node)
      → call_nodes (settled_call d f) d c ≡ call_nodes f d c
  nodes-same (call cs xs) d c =
      (value-same (call cs (settled_arguments d xs)) d c).nodes ∙ arguments_nodes-same cs xs d c

  arguments_answer-same : (cs : List ℕ) (xs : ArgumentTrees) (d : Value) (c : Node)
      → call_answer (call cs (settled_arguments d xs)) d c ≡ call_answer (call cs xs) d c
  arguments_answer-same cs no_arguments d c = refl
  arguments_answer-same cs (argument_then x no_arguments) d c =
      ap₂ (value_answer (meaning_named cs)) (value_of-same x d c) (nodes_of-same x d c)
  arguments_answer-same cs (argument_then x (argument_then y rest)) d c = refl

  arguments_hold-same : (cs : List ℕ) (xs : ArgumentTrees) (d : Value) (c : Node)
      → call_holds (call cs (settled_arguments d xs)) d c ≡ call_holds (call cs xs) d c
  arguments_hold-same cs no_arguments d c = refl
  arguments_hold-same cs (argument_then x no_arguments) d c = refl
  arguments_hold-same cs (argument_then x (argument_then y no_arguments)) d c =
      ap₂ (logical_answer (meaning_named cs)) (value_of-same x d c) (value_of-same y d c)
  arguments_hold-same cs (argument_then x (argument_then y (argument_then z rest))) d c = refl

  arguments_nodes-same : (cs : List ℕ) (xs : ArgumentTrees) (d : Value) (c : Node)
      → call_nodes (call cs (settled_arguments d xs)) d c ≡ call_nodes (call cs xs) d c
  arguments_nodes-same cs no_arguments d c = refl
  arguments_nodes-same cs (argument_then x no_arguments) d c =
      ap (nodes_answer (meaning_named cs)) (nodes_of-same x d c)
  arguments_nodes-same cs (argument_then x (argument_then y rest)) d c = refl

  value_of-same : (x : ArgumentTree) (d : Value) (c : Node)
      → argument_value (settled_argument d x) d c ≡ argument_value x d c
  value_of-same (literal_argument x) d c = refl
  value_of-same (query_argument q) d c = ap₂ single (query-single q d) (query-same q d c)
  value_of-same (call_argument f) d c = argument-same (settled_call d f) d c ∙ answer-same f d c
  value_of-same (logical_argument e) d c = refl

  nodes_of-same : (x : ArgumentTree) (d : Value) (c : Node)
      → argument_nodes (settled_argument d x) d c ≡ argument_nodes x d c
  nodes_of-same (literal_argument x) d c = refl
  nodes_of-same (query_argument q) d c = ap Some (query-same q d c)
  nodes_of-same (call_argument f) d c =
      argument_nodes-same (settled_call d f) d c ∙ nodes-same f d c
  nodes_of-same (logical_argument e) d c = refl
