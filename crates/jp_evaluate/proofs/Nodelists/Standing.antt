-- A nodelist has nodes of the document alone, and that of a singular query has at most one.
use Rattle.std.proofs.Common.{◌≡◌, ◌≤◌, Bool, true, false, List, [], ◌∷◌, ◌++◌, length, map}
use Rattle.std.proofs.Common.{Option, Some, None, option_to_list, refl, ◌∙◌, sym, subst, arith}
use Rattle.std.specs.List.{All, Contains}
use Rattle.std.proofs.lemmas.Bool.{and_parts}
use Rattle.std.proofs.lemmas.List.{append-nil}
use Rattle.std.proofs.lemmas.List.Elements.{All-append, All-cons, All-filter, All-nil}
use Rattle.std.proofs.lemmas.List.Elements.{All-contains, All-weaker}
use Rattle.std.specs.Option.{IfSome, option_map}
use Rattle.jp_document.specs.Location.{Step, Location}
use Rattle.jp_document.specs.Node.{Node, StandsIn, children, node_below}
use Rattle.jp_document.specs.Value.{Value}
use Rattle.jp_tree.specs.Singular.{are_single, is_single, is_single_segment}
use Rattle.jp_tree.specs.Tree.{SegmentTree, SegmentTrees, SelectorTree, SelectorTrees, filter}
use Rattle.jp_tree.specs.Tree.{ArgumentTree, CallTree, argument_then, call, call_argument}
use Rattle.jp_tree.specs.Tree.{literal_argument, logical_argument, no_arguments, query_argument}
use Rattle.jp_tree.specs.Tree.{index, name, no_segments, no_selectors, query, segment}
use Rattle.jp_tree.specs.Tree.{segment_then, selector_then, slice, wildcard}
use Rattle.jp_select.proofs.Choosing.Nodes.{candidates_below, choosing_law}
use Rattle.jp_select.proofs.Locations.{subtree-stands}
use Rattle.jp_select.specs.Selectors.{single}
use Rattle.jp_select.specs.Subtree.{subtree_of}
use Rattle.jp_evaluate.specs.Laws.{SelectsNodesAlone}
use Rattle.jp_evaluate.specs.NodelistLaws.{SingularSelectsOne}
use Rattle.jp_evaluate.specs.Nodelist.{holds, result, segment_result, selected, selection, start_of}
use Rattle.jp_evaluate.specs.Nodelist.{visited}
use Rattle.jp_check.specs.Functions.{function_named}
use Rattle.jp_tree.specs.declared.function.Function.{Function}
use Rattle.jp_check.specs.declared.profile.Profile.TheVariants.{Extended}
use Rattle.jp_evaluate.specs.Functions.{Meaning, meaning, nodes_answer, nodes_of_nodes}
use Rattle.jp_evaluate.specs.Nodelist.{argument_nodes, call_nodes}
use Rattle.jp_evaluate.proofs.Nodelists.Meanings.{IsLawful, is_lawful}
use Rattle.jp_evaluate.proofs.Nodelists.Elements.{All-flat_map_from}

-- ---- nodes of the document

selection_stands : (x : SelectorTree) (d : Value) (n : Node) → StandsIn d n
    → All (StandsIn d) (selection x d n)
selection_stands (filter e) d n stands =
    All-filter (holds e d) (StandsIn d) (children n) (candidates_below d n wildcard stands)
selection_stands x d n stands = choosing_law d n x stands

selected_stand : (xs : SelectorTrees) (d : Value) (n : Node) → StandsIn d n
    → All (StandsIn d) (selected xs d n)
selected_stand no_selectors d n stands = All-nil (StandsIn d)
selected_stand (selector_then x xs) d n stands =
    All-append (StandsIn d) (selection x d n) (selected xs d n) (selection_stands x d n stands)
    (selected_stand xs d n stands)

visited_stand : (descendant : Bool) (d : Value) (ns : List Node) → All (StandsIn d) ns
    → All (StandsIn d) (visited descendant ns)
visited_stand false d ns all = all
visited_stand true d ns all =
    All-flat_map_from (StandsIn d) (StandsIn d) subtree_of ns (subtree-stands d) all

segment_stands : (s : SegmentTree) (d : Value) (ns : List Node) → All (StandsIn d) ns
    → All (StandsIn d) (segment_result s d ns)
segment_stands (segment descendant xs) d ns all =
    All-flat_map_from (StandsIn d) (StandsIn d) (selected xs d) (visited descendant ns)
    (selected_stand xs d) (visited_stand descendant d ns all)

result_stands : (ss : SegmentTrees) (d : Value) (ns : List Node) → All (StandsIn d) ns
    → All (StandsIn d) (result ss d ns)
result_stands no_segments d ns all = all
result_stands (segment_then s rest) d ns all =
    result_stands rest d (segment_result s d ns) (segment_stands s d ns all)

start_stands : (absolute : Bool) (d : Value) (c : Node) → StandsIn d c
    → StandsIn d (start_of absolute d c)
start_stands true d c stands = record { document = stands.document; there = refl }
start_stands false d c stands = stands

pub selects_nodes_alone : SelectsNodesAlone
selects_nodes_alone (query absolute ss) d c stands =
    result_stands ss d (start_of absolute d c ∷ [])
    (All-cons (StandsIn d) (start_of absolute d c) [] (start_stands absolute d c stands)
    (All-nil (StandsIn d)))

answer_stands : (f : Option Function) (d : Value) (o : Option (List Node))
    → IfSome o (All (StandsIn d)) → IfSome (nodes_answer (option_map meaning f) o) (All (StandsIn d))
answer_stands None d o stand = tt
answer_stands (Some f) d o stand = of_meaning (meaning f) (is_lawful f) o stand
  where
    of_meaning : (m : Meaning) → IsLawful m → (o : Option (List Node))
        → IfSome o (All (StandsIn d)) → IfSome (nodes_answer (Some m) o) (All (StandsIn d))
    of_meaning (nodes_of_nodes g) lawful None stand = tt
    of_meaning (nodes_of_nodes g) lawful (Some ns) stand =
        All-weaker (Contains ns) (StandsIn d) (λ n is. All-contains (StandsIn d) ns n stand is) (g ns)
        (lawful.own ns)
    of_meaning m lawful o stand = tt

-- the nodes that an argument stands for, or a call answers
mutual
  pub argument_stands : (x : ArgumentTree) (d : Value) (c : Node) → StandsIn d c
      → IfSome (argument_nodes x d c) (All (StandsIn d))
  argument_stands (query_argument q) d c stands = selects_nodes_alone q d c stands
  argument_stands (literal_argument x) d c stands = tt
  argument_stands (call_argument f) d c stands = call_stands f d c stands
  argument_stands (logical_argument e) d c stands = tt

  call_stands : (f : CallTree) (d : Value) (c : Node) → StandsIn d c
      → IfSome (call_nodes f d c) (All (StandsIn d))
  call_stands (call cs no_arguments) d c stands = tt
  call_stands (call cs (argument_then x no_arguments)) d c stands =
      answer_stands (function_named Extended cs) d (argument_nodes x d c)
      (argument_stands x d c stands)
  call_stands (call cs (argument_then x (argument_then y rest))) d c stands = tt

-- ---- at most one node

one_entry : (l : Location) (o : Option (Step × Value))
    → length (map (node_below l) (option_to_list o)) ≤ 1
one_entry l None = omega arith
one_entry l (Some e) = omega arith

single_selection : (x : SelectorTree) (d : Value) (n : Node) → is_single x ≡ true
    → length (selection x d n) ≤ 1
single_selection (name cs) d n is = one_entry n.location (single (name cs) n.value)
single_selection (index i) d n is = one_entry n.location (single (index i) n.value)
single_selection wildcard d n is = absurd (cc)
single_selection (slice s) d n is = absurd (cc)
single_selection (filter e) d n is = absurd (cc)

single_step : (x : SelectorTree) (d : Value) (ns : List Node) → is_single x ≡ true
    → length ns ≤ 1 → length (segment_result (segment false (selector_then x no_selectors)) d ns) ≤ 1
single_step x d [] is few = omega arith
single_step x d (n ∷ []) is few =
    let same : (selection x d n ++ []) ++ [] ≡ selection x d n =
    append-nil (selection x d n ++ []) ∙ append-nil (selection x d n) in
    subst (λ ms. length ms ≤ 1) (sym same) (single_selection x d n is)
single_step x d (n ∷ m ∷ ns) is few = absurd (omega arith)

single_segment : (s : SegmentTree) (d : Value) (ns : List Node) → is_single_segment s ≡ true
    → length ns ≤ 1 → length (segment_result s d ns) ≤ 1
single_segment (segment true xs) d ns is few = absurd (cc)
single_segment (segment false no_selectors) d ns is few = absurd (cc)
single_segment (segment false (selector_then x no_selectors)) d ns is few =
    single_step x d ns is few
single_segment (segment false (selector_then x (selector_then y xs))) d ns is few = absurd (cc)

single_result : (ss : SegmentTrees) (d : Value) (ns : List Node) → are_single ss ≡ true
    → length ns ≤ 1 → length (result ss d ns) ≤ 1
single_result no_segments d ns are few = few
single_result (segment_then s rest) d ns are few =
    let both = and_parts (is_single_segment s) (are_single rest) are in
    single_result rest d (segment_result s d ns) both.1 (single_segment s d ns both.0 few)

pub singular_selects_one : SingularSelectsOne
singular_selects_one (query absolute ss) d c are =
    single_result ss d (start_of absolute d c ∷ []) are (omega arith)
