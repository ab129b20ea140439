-- The steps that nodelists take.
use Rattle.std.proofs.Common.{◌≡◌, ◌≤◌, ℕ, ◌+◌, Bool, true, false, if◌then◌else◌, List, [], ◌∷◌, ◌++◌, Option}
use Rattle.std.proofs.Common.{length, map, ap, arith}
use Rattle.std.specs.List.{filter as those_of, flat_map, sum_by}
use Rattle.std.proofs.lemmas.List.{append-nil, length-append}
use Rattle.std.proofs.lemmas.List.Sums.{sum_by-append, sum_by-cons}
use Rattle.jp_document.specs.Location.{Location, Step}
use Rattle.jp_document.specs.Node.{Node, node_below, root_of}
use Rattle.jp_document.specs.Value.{Value}
use Rattle.jp_tree.specs.Tree.{ExprTree, SegmentTree, SegmentTrees, SelectorTrees, no_segments, no_selectors, segment}
use Rattle.jp_tree.specs.Tree.{segment_then, selector_then}
use Rattle.jp_select.specs.Selectors.{candidates}
use Rattle.jp_select.specs.Subtree.{beyond, nodes_in, subtree_of}
use Rattle.jp_evaluate.specs.Cost.{NodesTakeSteps, cost, selectors_cost, value_cost}
use Rattle.jp_evaluate.specs.Nodelist.{result, segment_result, selected, selection}
use Rattle.jp_evaluate.specs.Private.Walk.{passes, reaches, test_of}
use Rattle.jp_evaluate.proofs.Nodelists.Joined.{result-each}
use Rattle.jp_evaluate.proofs.Walks.Advances.{passes-anywhere}
use Rattle.jp_evaluate.proofs.Walks.Reaching.{selection-kept}

-- those of the segments after, from nodes on
abbrev nodes_cost : SegmentTrees → Value → List Node → ℕ
nodes_cost rest d ns = sum_by (λ n. cost rest d n.value) ns

nodes-append : (rest : SegmentTrees) (d : Value) (ms ns : List Node)
    → nodes_cost rest d (ms ++ ns) ≡ nodes_cost rest d ms + nodes_cost rest d ns
nodes-append rest d ms ns = sum_by-append (λ (n : Node). cost rest d n.value) ms ns

-- a node that is kept where it passes
kept-first : (b : Bool) (rest : SegmentTrees) (d : Value) (x : Node) (xs : List Node) (n : ℕ)
    → nodes_cost rest d xs ≤ n
    → nodes_cost rest d (if b then x ∷ xs else xs) ≤ (if b then cost rest d x.value else 1) + n
kept-first true rest d x xs n less =
    let sum = sum_by-cons (λ (m : Node). cost rest d m.value) x xs in omega arith
kept-first false rest d x xs n less = omega arith

kept-cost : (t : Option ExprTree) (rest : SegmentTrees) (d : Value) (l : Location) (es : List (Step × Value))
    → nodes_cost rest d (those_of (passes t d) (map (node_below l) es))
    ≤ sum_by (λ e. if passes t d (root_of e.1) then cost rest d e.1 else 1) es
kept-cost t rest d l [] = omega arith
kept-cost t rest d l (e ∷ es) =
    let f = λ (x : Step × Value). if passes t d (root_of x.1) then cost rest d x.1 else 1 in
    let x = node_below l e in
    let xs = those_of (passes t d) (map (node_below l) es) in
    let same = ap (λ b. nodes_cost rest d (if b then x ∷ xs else xs)) (passes-anywhere t d x) in
    let here = kept-first (passes t d (root_of e.1)) rest d x xs (sum_by f es) (kept-cost t rest d l es) in
    let sum = sum_by-cons f e es in
    omega arith

selected-cost : (ss : SelectorTrees) (rest : SegmentTrees) (d : Value) (n : Node)
    → nodes_cost rest d (selected ss d n) ≤ selectors_cost ss (cost rest d) d n.value
selected-cost no_selectors rest d n = omega arith
selected-cost (selector_then s ss) rest d n =
    let sum = nodes-append rest d (selection s d n) (selected ss d n) in
    let mine = ap (nodes_cost rest d) (selection-kept s d n) in
    let kept = kept-cost (test_of s) rest d n.location (candidates s n.value) in
    let more = selected-cost ss rest d n in
    omega arith

subtree-cost : (ss : SelectorTrees) (rest all : SegmentTrees) (d : Value) (l : Location) (ms : List Node)
    → nodes_cost rest d (flat_map (selected ss d) (map (beyond l) ms))
    ≤ sum_by (λ m. value_cost all m.value + selectors_cost ss (cost rest d) d m.value) ms
subtree-cost ss rest all d l [] = omega arith
subtree-cost ss rest all d l (m ∷ ms) =
    let f = λ (x : Node). value_cost all x.value + selectors_cost ss (cost rest d) d x.value in
    let first = selected-cost ss rest d (beyond l m) in
    let sum = nodes-append rest d (selected ss d (beyond l m)) (flat_map (selected ss d) (map (beyond l) ms)) in
    let more = subtree-cost ss rest all d l ms in
    let all-of = sum_by-cons f m ms in
    omega arith

rest-cost : (s : SegmentTree) (rest : SegmentTrees) (d : Value) (n : Node)
    → nodes_cost rest d (segment_result s d (n ∷ [])) ≤ cost (segment_then s rest) d n.value
rest-cost (segment false ss) rest d n =
    let same = ap (nodes_cost rest d) (append-nil (selected ss d n)) in
    let mine = selected-cost ss rest d n in
    omega arith
rest-cost (segment true ss) rest d n =
    let same = ap (λ ns. nodes_cost rest d (flat_map (selected ss d) ns)) (append-nil (subtree_of n)) in
    let mine = subtree-cost ss rest (segment_then (segment true ss) rest) d n.location (nodes_in n.value) in
    omega arith

-- as many as each gives, at most
joined-length : (g : Node → List Node) (f : Node → ℕ) → ((m : Node) → length (g m) ≤ f m) → (ns : List Node)
    → length (flat_map g ns) ≤ sum_by f ns
joined-length g f each [] = omega arith
joined-length g f each (n ∷ ns) =
    let long = length-append (g n) (flat_map g ns) in
    let here = each n in
    let more = joined-length g f each ns in
    let sum = sum_by-cons f n ns in
    omega arith

nodes-cost : (all : SegmentTrees) (d : Value) (n : Node) → length (result all d (n ∷ [])) ≤ cost all d n.value
nodes-cost no_segments d n = omega arith
nodes-cost (segment_then s rest) d n =
    let ns = segment_result s d (n ∷ []) in
    let each = ap length (result-each rest d ns) in
    let joined = joined-length (reaches rest d) (λ m. cost rest d m.value) (nodes-cost rest d) ns in
    let less = rest-cost s rest d n in
    omega arith

pub steps-law : NodesTakeSteps
steps-law = record { nodes = nodes-cost; rest = rest-cost }
