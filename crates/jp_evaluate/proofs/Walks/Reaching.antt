-- What the choices at a value reach, and how many there are.
use Rattle.std.proofs.Common.{◌≡◌, ℕ, suc, ◌+◌, ◌<◌, Bool, true, false, if◌then◌else◌, List}
use Rattle.std.proofs.Common.{[], ◌∷◌, ◌++◌, None, map, refl, ap, ap₂, sym, ◌∙◌, arith}
use Rattle.std.specs.List.{filter as those_of, flat_map, sum_by}
use Rattle.std.proofs.lemmas.Grind.{flat_map-append}
use Rattle.std.proofs.lemmas.List.{append-nil, map-append}
use Rattle.std.proofs.lemmas.List.Sums.{sum_by-append, sum_by-cons}
use Rattle.jp_document.specs.Location.{Step, Location, entries}
use Rattle.jp_document.specs.Node.{Node, children, node_at, node_below, root_of}
use Rattle.jp_document.specs.Value.{Value}
use Rattle.jp_tree.specs.Tree.{SegmentTree, SegmentTrees, SelectorTree, SelectorTrees}
use Rattle.jp_tree.specs.Tree.{filter, no_segments, no_selectors}
use Rattle.jp_tree.specs.Tree.{segment, segment_then, selector_then, wildcard}
use Rattle.jp_select.proofs.Locations.{inner, nodes-children, nodes_in-entries}
use Rattle.jp_select.specs.Selectors.{candidates}
use Rattle.jp_select.specs.Subtree.{after, nodes_in, subtree_of}
use Rattle.jp_evaluate.specs.Nodelist.{result, selected, selection}
use Rattle.jp_evaluate.specs.Private.Walk.{Choice, choice_at, choice_of, choice_reaches}
use Rattle.jp_evaluate.specs.Private.Walk.{choice_weight, choices_from, passes, reaches}
use Rattle.jp_evaluate.specs.Private.Walk.{selector_turns}
use Rattle.jp_evaluate.specs.Private.Walk.{selectors_weight, test_of, turn_choices, turns, weight}
use Rattle.jp_evaluate.proofs.Nodelists.Joined.{result-append, result-each, result-none}
use Rattle.jp_evaluate.proofs.Walks.Choices.{choices_all}

-- ---- what choices reach

taken_if : {X Y : Type 0} (b : Bool) (f : X → List Y) (x : X) (xs : List X) (rest : List Y)
    → flat_map f xs ≡ rest
    → flat_map f (if b then x ∷ xs else xs) ≡ (if b then f x else []) ++ rest
taken_if true f x xs rest is = ap (λ t. f x ++ t) is
taken_if false f x xs rest is = is

-- the choices that pass their test are those of which it is true
kept_reach : (s : SelectorTree) (rest : SegmentTrees) (d : Value) (l : Location)
    (es : List (Step × Value))
    → flat_map (reaches rest d) (those_of (passes (test_of s) d) (map (node_below l) es)) ≡
    flat_map (choice_reaches d) (map (choice_at l) (map (choice_of (s, rest)) es))
kept_reach s rest d l [] = refl
kept_reach s rest d l (e ∷ es) =
    taken_if (passes (test_of s) d (node_below l e)) (reaches rest d) (node_below l e)
    (those_of (passes (test_of s) d) (map (node_below l) es)) _ (kept_reach s rest d l es)

all_kept : (d : Value) (ns : List Node) → those_of (passes None d) ns ≡ ns
all_kept d [] = refl
all_kept d (n ∷ ns) = ap (λ t. n ∷ t) (all_kept d ns)

pub selection-kept : (s : SelectorTree) (d : Value) (n : Node)
    → selection s d n ≡
    those_of (passes (test_of s) d) (map (node_below n.location) (candidates s n.value))
selection-kept (filter e) d n = refl
selection-kept s d n = sym (all_kept d (map (node_below n.location) (candidates s n.value)))

selectors_reach : (ss : SelectorTrees) (rest : SegmentTrees) (d : Value) (n : Node)
    → result rest d (selected ss d n) ≡
    flat_map (choice_reaches d)
    (map (choice_at n.location) (flat_map (turn_choices n.value) (selector_turns rest ss)))
selectors_reach no_selectors rest d n = result-none rest d
selectors_reach (selector_then s ss) rest d n =
    let here = turn_choices n.value (s, rest) in
    let more = flat_map (turn_choices n.value) (selector_turns rest ss) in
    result-append rest d (selection s d n) (selected ss d n)
    ∙ ap₂ (λ xs ys. xs ++ ys)
    (result-each rest d (selection s d n)
    ∙ ap (flat_map (reaches rest d)) (selection-kept s d n)
    ∙ kept_reach s rest d n.location (candidates s n.value))
    (selectors_reach ss rest d n)
    ∙ sym (ap (flat_map (choice_reaches d)) (map-append (choice_at n.location) here more)
    ∙ flat_map-append (choice_reaches d) (map (choice_at n.location) here)
    (map (choice_at n.location) more))

children_reach : (all : SegmentTrees) (d : Value) (n : Node)
    → result all d (children n) ≡
    flat_map (choice_reaches d)
    (map (choice_at n.location) (turn_choices n.value (wildcard, all)))
children_reach all d n =
    result-each all d (children n)
    ∙ ap (flat_map (reaches all d)) (sym (all_kept d (children n)))
    ∙ kept_reach wildcard all d n.location (entries n.value)

all_reach : (all : SegmentTrees) (d : Value) (n : Node) → (s : SegmentTree) (rest : SegmentTrees)
    → all ≡ segment_then s rest
    → reaches all d n ≡
    flat_map (choice_reaches d)
    (map (choice_at n.location) (flat_map (turn_choices n.value) (turns all)))
all_reach no_segments d n s rest is = absurd (cc)
all_reach (segment_then (segment false ss) rest) d n s more is =
    ap (result rest d) (append-nil (selected ss d n))
    ∙ selectors_reach ss rest d n
    ∙ ap
    (λ ts. flat_map (choice_reaches d)
    (map (choice_at n.location) (flat_map (turn_choices n.value) ts)))
    (sym (append-nil (selector_turns rest ss)))
all_reach (segment_then (segment true ss) rest) d n s more is =
    let all = segment_then (segment true ss) rest in
    let own = selector_turns rest ss in
    let here = flat_map (turn_choices n.value) own in
    let below = turn_choices n.value (wildcard, all) in
    ap (λ ns. result rest d (flat_map (selected ss d) ns))
    (append-nil (subtree_of n) ∙ nodes-children n.location n.value)
    ∙ result-append rest d (selected ss d n)
    (flat_map (selected ss d) (flat_map subtree_of (children n)))
    ∙ ap₂ (λ xs ys. xs ++ ys) (selectors_reach ss rest d n) (children_reach all d n)
    ∙ sym
    (ap (λ cs. flat_map (choice_reaches d) (map (choice_at n.location) cs))
    (flat_map-append (turn_choices n.value) own ((wildcard, all) ∷ [])
    ∙ ap (λ t. here ++ t) (append-nil below))
    ∙ ap (flat_map (choice_reaches d)) (map-append (choice_at n.location) here below)
    ∙ flat_map-append (choice_reaches d) (map (choice_at n.location) here)
    (map (choice_at n.location) below))

-- going on from a node reaches what its choices do
pub enters : (s : SegmentTree) (rest all : SegmentTrees) (d v : Value) (l : Location)
    → all ≡ segment_then s rest
    → reaches all d (node_at l v) ≡
    flat_map (choice_reaches d) (map (choice_at l) (choices_from v (turns all) 0))
enters s rest all d v l is =
    all_reach all d (node_at l v) s rest is
    ∙ ap (λ cs. flat_map (choice_reaches d) (map (choice_at l) cs))
    (sym (choices_all v (turns all)))

-- ---- how many choices there are

candidates_weight : (l : Location) (s : SelectorTree) (rest : SegmentTrees)
    (es : List (Step × Value))
    → sum_by choice_weight (map (choice_at l) (map (choice_of (s, rest)) es)) ≡
    sum_by (λ e. weight rest e.1) es
candidates_weight l s rest [] = refl
candidates_weight l s rest (e ∷ es) =
    sum_by-cons choice_weight (choice_at l (choice_of (s, rest) e))
    (map (choice_at l) (map (choice_of (s, rest)) es))
    ∙ ap (λ n. weight rest e.1 + n) (candidates_weight l s rest es)
    ∙ sym (sum_by-cons (λ e. weight rest e.1) e es)

selectors_weigh : (l : Location) (v : Value) (ss : SelectorTrees) (rest : SegmentTrees)
    → sum_by choice_weight (map (choice_at l) (flat_map (turn_choices v) (selector_turns rest ss))) ≡
    selectors_weight ss (weight rest) v
selectors_weigh l v no_selectors rest = refl
selectors_weigh l v (selector_then s ss) rest =
    let here = turn_choices v (s, rest) in
    let more = flat_map (turn_choices v) (selector_turns rest ss) in
    ap (sum_by choice_weight) (map-append (choice_at l) here more)
    ∙ sum_by-append choice_weight (map (choice_at l) here) (map (choice_at l) more)
    ∙ ap₂ (λ m n. m + n) (candidates_weight l s rest (candidates s v)) (selectors_weigh l v ss rest)

-- the weight of what is in values
inner_weight : (f : Value → ℕ) (k : Step) (ns : List Node)
    → sum_by (λ n. f n.value) (map (after k) ns) ≡ sum_by (λ n. f n.value) ns
inner_weight f k [] = refl
inner_weight f k (n ∷ ns) =
    sum_by-cons (λ (m : Node). f m.value) (after k n) (map (after k) ns)
    ∙ ap (λ m. f n.value + m) (inner_weight f k ns)
    ∙ sym (sum_by-cons (λ (m : Node). f m.value) n ns)

pub inners_weight : (f : Value → ℕ) (es : List (Step × Value))
    → sum_by (λ n. f n.value) (flat_map inner es) ≡
    sum_by (λ e. sum_by (λ n. f n.value) (nodes_in e.1)) es
inners_weight f [] = refl
inners_weight f (e ∷ es) =
    sum_by-append (λ (m : Node). f m.value) (inner e) (flat_map inner es)
    ∙ ap₂ (λ m n. m + n) (inner_weight f e.0 (nodes_in e.1)) (inners_weight f es)
    ∙ sym (sum_by-cons (λ (x : Step × Value). sum_by (λ n. f n.value) (nodes_in x.1)) e es)

all_weigh : (l : Location) (v : Value) (all : SegmentTrees) (s : SegmentTree)
    (rest : SegmentTrees) → all ≡ segment_then s rest
    → weight all v ≡
    suc (sum_by choice_weight (map (choice_at l) (flat_map (turn_choices v) (turns all))))
all_weigh l v no_segments s rest is = absurd (cc)
all_weigh l v (segment_then (segment false ss) rest) s more is =
    ap suc (sym (selectors_weigh l v ss rest)
    ∙ ap (λ ts. sum_by choice_weight (map (choice_at l) (flat_map (turn_choices v) ts)))
    (sym (append-nil (selector_turns rest ss))))
all_weigh l v (segment_then (segment true ss) rest) s more is =
    let all = segment_then (segment true ss) rest in
    let own = selector_turns rest ss in
    let here = flat_map (turn_choices v) own in
    let below = turn_choices v (wildcard, all) in
    let f = λ (w : Value). suc (selectors_weight ss (weight rest) w) in
    ap (sum_by (λ n. f n.value)) (nodes_in-entries v)
    ∙ sum_by-cons (λ (n : Node). f n.value) (root_of v) (flat_map inner (entries v))
    ∙ ap₂ (λ m n. suc m + n) (sym (selectors_weigh l v ss rest))
    (inners_weight f (entries v) ∙ sym (candidates_weight l wildcard all (entries v)))
    ∙ suc_first _ _
    ∙ ap suc
    (sym
    (ap (λ cs. sum_by choice_weight (map (choice_at l) cs))
    (flat_map-append (turn_choices v) own ((wildcard, all) ∷ [])
    ∙ ap (λ t. here ++ t) (append-nil below))
    ∙ ap (sum_by choice_weight) (map-append (choice_at l) here below)
    ∙ sum_by-append choice_weight (map (choice_at l) here) (map (choice_at l) below)))
  where
    suc_first : (m n : ℕ) → suc m + n ≡ suc (m + n)
    suc_first m n = omega arith

-- going on from a value leaves fewer choices than it has itself
pub enters_less : (s : SegmentTree) (rest all : SegmentTrees) (v : Value) (l : Location)
    → all ≡ segment_then s rest
    → weight all v ≡ suc (sum_by choice_weight (map (choice_at l) (choices_from v (turns all) 0)))
enters_less s rest all v l is =
    all_weigh l v all s rest is
    ∙ ap (λ cs. suc (sum_by choice_weight (map (choice_at l) cs))) (sym (choices_all v (turns all)))

some_weight : (all : SegmentTrees) (v : Value) → 0 < weight all v
some_weight no_segments v = omega arith
some_weight (segment_then s rest) v =
    let is = enters_less s rest (segment_then s rest) v [] refl in omega arith

pub choice-weighs : (c : Location × Choice) → 0 < choice_weight c
choice-weighs c = some_weight c.1.left c.1.value
