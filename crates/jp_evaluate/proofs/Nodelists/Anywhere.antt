-- What is asked at a node depends on its value alone, and not on where it stands.
use Rattle.std.proofs.Common.{◌≡◌, true, false, not, ◌&&◌, ◌||◌, if◌then◌else◌}
use Rattle.std.proofs.Common.{List, [], ◌∷◌, ◌++◌, Option, Some, None, map, option_map}
use Rattle.std.proofs.Common.{refl, ap, ap₂, sym, ◌∙◌}
use Rattle.std.specs.List.{filter as those_of, flat_map}
use Rattle.std.proofs.lemmas.List.{append-nil, map-append}
use Rattle.jp_document.specs.Location.{Location, entries}
use Rattle.jp_document.specs.Node.{Node, children, node_at, root_of}
use Rattle.jp_document.specs.Value.{Value}
use Rattle.jp_tree.specs.Singular.{is_singular}
use Rattle.jp_tree.specs.Tree.{ArgumentTree, CallTree, ExprTree, ExprTrees, OperandTree, QueryTree}
use Rattle.jp_tree.specs.Tree.{SegmentTree, SegmentTrees, SelectorTree, SelectorTrees, all_of}
use Rattle.jp_tree.specs.Tree.{any_of, argument_then, call, call_argument, call_test, call_value}
use Rattle.jp_tree.specs.Tree.{comparison, exists, expr_then, filter, literal}
use Rattle.jp_tree.specs.Tree.{literal_argument, logical_argument, negation, no_arguments}
use Rattle.jp_tree.specs.Tree.{no_exprs, no_segments, no_selectors, node_value, query}
use Rattle.jp_tree.specs.Tree.{query_argument, segment, segment_then, selector_then}
use Rattle.jp_check.specs.Functions.{function_named}
use Rattle.jp_check.specs.declared.profile.Profile.TheVariants.{Extended}
use Rattle.jp_tree.specs.declared.function.Function.{Function}
use Rattle.jp_select.specs.Comparison.{compared}
use Rattle.jp_select.specs.Selectors.{candidates}
use Rattle.jp_select.specs.Subtree.{beyond}
use Rattle.jp_evaluate.specs.Functions.{Meaning, logical_answer, meaning, nodes_answer, nodes_of_nodes}
use Rattle.jp_evaluate.specs.Functions.{value_answer, value_of_nodes}
use Rattle.jp_evaluate.proofs.Nodelists.Beyond.{beyond-nothing, flat_map-beyond}
use Rattle.jp_evaluate.proofs.Nodelists.Beyond.{has_node-beyond, nodes_below-beyond, only-beyond}
use Rattle.jp_evaluate.proofs.Nodelists.Beyond.{those_of-beyond, visited-beyond}
use Rattle.jp_evaluate.proofs.Nodelists.Meanings.{IsLawful, is_lawful}
use Rattle.jp_evaluate.specs.Nodelist.{all_hold, any_holds, argument_nodes, argument_value}
use Rattle.jp_evaluate.specs.Nodelist.{call_answer, call_holds, call_nodes, has_node, holds}
use Rattle.jp_evaluate.specs.Nodelist.{meaning_named, nodelist_at, some_node}
use Rattle.jp_evaluate.specs.Nodelist.{operand_value, result, segment_result, selected, selection}
use Rattle.jp_evaluate.specs.Nodelist.{single_node_value, visited}
use Rattle.jp_evaluate.specs.Private.Walk.{reaches}

-- ---- what is asked of values alone

single-beyond : (q : QueryTree) (l : Location) (ns : List Node)
    → single_node_value q (map (beyond l) ns) ≡ single_node_value q ns
single-beyond q l ns = ap (λ v. if is_singular q then v else None) (only-beyond l ns)

answer-beyond : (f : Option Function) (v : Option Value) (l : Location) (o : Option (List Node))
    → value_answer (option_map meaning f) v (option_map (map (beyond l)) o)
    ≡ value_answer (option_map meaning f) v o
answer-beyond None v l o = refl
answer-beyond (Some f) v l o = of_meaning (meaning f) (is_lawful f) o
  where
    of_meaning : (m : Meaning) → IsLawful m → (o : Option (List Node))
        → value_answer (Some m) v (option_map (map (beyond l)) o) ≡ value_answer (Some m) v o
    of_meaning (value_of_nodes g) lawful None = refl
    of_meaning (value_of_nodes g) lawful (Some ns) = lawful.beyond l ns
    of_meaning m lawful o = refl

nodes_answer-beyond : (f : Option Function) (l : Location) (o : Option (List Node))
    → nodes_answer (option_map meaning f) (option_map (map (beyond l)) o)
    ≡ option_map (map (beyond l)) (nodes_answer (option_map meaning f) o)
nodes_answer-beyond None l o = refl
nodes_answer-beyond (Some f) l o = of_meaning (meaning f) (is_lawful f) o
  where
    of_meaning : (m : Meaning) → IsLawful m → (o : Option (List Node))
        → nodes_answer (Some m) (option_map (map (beyond l)) o)
        ≡ option_map (map (beyond l)) (nodes_answer (Some m) o)
    of_meaning (nodes_of_nodes g) lawful None = refl
    of_meaning (nodes_of_nodes g) lawful (Some ns) = ap Some (lawful.beyond l ns)
    of_meaning m lawful o = refl

some_node-beyond : (l : Location) (o : Option (List Node))
    → some_node (option_map (map (beyond l)) o) ≡ some_node o
some_node-beyond l None = refl
some_node-beyond l (Some ns) = has_node-beyond l ns

-- ---- the evaluation

-- how far on a query's nodes are: as far as the current node, but from the root nowhere
abbrev further : QueryTree → Location → Location
further (query true all) l = []
further (query false all) l = l

-- the same of the nodes that an argument stands for, or a call answers
abbrev mutual
  argument_further : ArgumentTree → Location → Location
  argument_further (query_argument q) l = further q l
  argument_further (call_argument f) l = call_further f l
  argument_further (literal_argument x) l = []
  argument_further (logical_argument e) l = []

  call_further : CallTree → Location → Location
  call_further (call cs (argument_then x no_arguments)) l = argument_further x l
  call_further (call cs _) l = []

mutual
  holds-beyond : (e : ExprTree) (d : Value) (l : Location) (n : Node)
      → holds e d (beyond l n) ≡ holds e d n
  holds-beyond (any_of es) d l n = any_holds-beyond es d l n
  holds-beyond (all_of es) d l n = all_hold-beyond es d l n
  holds-beyond (negation e) d l n = ap not (holds-beyond e d l n)
  holds-beyond (comparison left op right) d l n =
      ap₂ (compared op) (operand-beyond left d l n) (operand-beyond right d l n)
  holds-beyond (exists q) d l n =
      ap has_node (query-beyond q d l n) ∙ has_node-beyond (further q l) (nodelist_at q d n)
  holds-beyond (call_test f) d l n =
      ap₂ (λ a b. a || b) (call_holds-beyond f d l n)
      (ap some_node (call_nodes-beyond f d l n)
      ∙ some_node-beyond (call_further f l) (call_nodes f d n))

  any_holds-beyond : (es : ExprTrees) (d : Value) (l : Location) (n : Node)
      → any_holds es d (beyond l n) ≡ any_holds es d n
  any_holds-beyond no_exprs d l n = refl
  any_holds-beyond (expr_then e es) d l n =
      ap₂ (λ a b. a || b) (holds-beyond e d l n) (any_holds-beyond es d l n)

  all_hold-beyond : (es : ExprTrees) (d : Value) (l : Location) (n : Node)
      → all_hold es d (beyond l n) ≡ all_hold es d n
  all_hold-beyond no_exprs d l n = refl
  all_hold-beyond (expr_then e es) d l n =
      ap₂ (λ a b. a && b) (holds-beyond e d l n) (all_hold-beyond es d l n)

  operand-beyond : (x : OperandTree) (d : Value) (l : Location) (n : Node)
      → operand_value x d (beyond l n) ≡ operand_value x d n
  operand-beyond (literal x) d l n = refl
  operand-beyond (node_value q) d l n =
      ap (single_node_value q) (query-beyond q d l n)
      ∙ single-beyond q (further q l) (nodelist_at q d n)
  operand-beyond (call_value f) d l n = call_answer-beyond f d l n

  call_answer-beyond : (f : CallTree) (d : Value) (l : Location) (n : Node)
      → call_answer f d (beyond l n) ≡ call_answer f d n
  call_answer-beyond (call cs no_arguments) d l n = refl
  call_answer-beyond (call cs (argument_then x no_arguments)) d l n =
      ap (λ v. value_answer (meaning_named cs) v (argument_nodes x d (beyond l n)))
      (argument_value-beyond x d l n)
      ∙ ap (value_answer (meaning_named cs) (argument_value x d n))
      (argument_nodes-beyond x d l n)
      ∙ answer-beyond (function_named Extended cs) (argument_value x d n) (argument_further x l)
      (argument_nodes x d n)
  call_answer-beyond (call cs (argument_then x (argument_then y rest))) d l n = refl

  call_holds-beyond : (f : CallTree) (d : Value) (l : Location) (n : Node)
      → call_holds f d (beyond l n) ≡ call_holds f d n
  call_holds-beyond (call cs no_arguments) d l n = refl
  call_holds-beyond (call cs (argument_then x no_arguments)) d l n = refl
  call_holds-beyond (call cs (argument_then x (argument_then y no_arguments))) d l n =
      ap₂ (logical_answer (meaning_named cs)) (argument_value-beyond x d l n)
      (argument_value-beyond y d l n)
  call_holds-beyond (call cs (argument_then x (argument_then y (argument_then z rest)))) d l n =
      refl

  argument_value-beyond : (x : ArgumentTree) (d : Value) (l : Location) (n : Node)
      → argument_value x d (beyond l n) ≡ argument_value x d n
  argument_value-beyond (literal_argument x) d l n = refl
  argument_value-beyond (query_argument q) d l n =
      ap (single_node_value q) (query-beyond q d l n)
      ∙ single-beyond q (further q l) (nodelist_at q d n)
  argument_value-beyond (call_argument f) d l n = call_answer-beyond f d l n
  argument_value-beyond (logical_argument e) d l n = refl

  argument_nodes-beyond : (x : ArgumentTree) (d : Value) (l : Location) (n : Node)
      → argument_nodes x d (beyond l n) ≡
      option_map (map (beyond (argument_further x l))) (argument_nodes x d n)
  argument_nodes-beyond (query_argument q) d l n = ap Some (query-beyond q d l n)
  argument_nodes-beyond (literal_argument x) d l n = refl
  argument_nodes-beyond (call_argument f) d l n = call_nodes-beyond f d l n
  argument_nodes-beyond (logical_argument e) d l n = refl

  call_nodes-beyond : (f : CallTree) (d : Value) (l : Location) (n : Node)
      → call_nodes f d (beyond l n) ≡
      option_map (map (beyond (call_further f l))) (call_nodes f d n)
  call_nodes-beyond (call cs no_arguments) d l n = refl
  call_nodes-beyond (call cs (argument_then x no_arguments)) d l n =
      ap (nodes_answer (meaning_named cs)) (argument_nodes-beyond x d l n)
      ∙ nodes_answer-beyond (function_named Extended cs) (argument_further x l)
      (argument_nodes x d n)
  call_nodes-beyond (call cs (argument_then x (argument_then y rest))) d l n = refl

  query-beyond : (q : QueryTree) (d : Value) (l : Location) (n : Node)
      → nodelist_at q d (beyond l n) ≡ map (beyond (further q l)) (nodelist_at q d n)
  query-beyond (query true all) d l n = beyond-nothing (result all d (root_of d ∷ []))
  query-beyond (query false all) d l n = result-beyond all d l (n ∷ [])

  result-beyond : (all : SegmentTrees) (d : Value) (l : Location) (ns : List Node)
      → result all d (map (beyond l) ns) ≡ map (beyond l) (result all d ns)
  result-beyond no_segments d l ns = refl
  result-beyond (segment_then s rest) d l ns =
      ap (result rest d) (segment-beyond s d l ns) ∙ result-beyond rest d l (segment_result s d ns)

  segment-beyond : (s : SegmentTree) (d : Value) (l : Location) (ns : List Node)
      → segment_result s d (map (beyond l) ns) ≡ map (beyond l) (segment_result s d ns)
  segment-beyond (segment b ss) d l ns =
      ap (flat_map (selected ss d)) (visited-beyond b l ns)
      ∙ flat_map-beyond l (selected ss d) (visited b ns) (λ n. selected-beyond ss d l n)

  selected-beyond : (ss : SelectorTrees) (d : Value) (l : Location) (n : Node)
      → selected ss d (beyond l n) ≡ map (beyond l) (selected ss d n)
  selected-beyond no_selectors d l n = refl
  selected-beyond (selector_then s ss) d l n =
      ap₂ (λ xs ys. xs ++ ys) (selection-beyond s d l n) (selected-beyond ss d l n)
      ∙ sym (map-append (beyond l) (selection s d n) (selected ss d n))

  selection-beyond : (s : SelectorTree) (d : Value) (l : Location) (n : Node)
      → selection s d (beyond l n) ≡ map (beyond l) (selection s d n)
  selection-beyond (filter e) d l n =
      ap (those_of (holds e d)) (nodes_below-beyond l n.location (entries n.value))
      ∙ those_of-beyond l (holds e d) (holds e d) (children n) (λ m. holds-beyond e d l m)
  selection-beyond s d l n = nodes_below-beyond l n.location (candidates s n.value)

-- an expression is true of a node where it is true of its value alone
pub holds-anywhere : (e : ExprTree) (d : Value) (n : Node) → holds e d n ≡ holds e d (root_of n.value)
holds-anywhere e d n =
    ap (λ l. holds e d (node_at l n.value)) (sym (append-nil n.location))
    ∙ holds-beyond e d n.location (root_of n.value)

-- segments reach further on from a node what they reach from its value alone
pub reaches-anywhere : (all : SegmentTrees) (d : Value) (n : Node)
    → reaches all d n ≡ map (beyond n.location) (reaches all d (root_of n.value))
reaches-anywhere all d n =
    ap (λ l. reaches all d (node_at l n.value)) (sym (append-nil n.location))
    ∙ result-beyond all d n.location (root_of n.value ∷ [])
