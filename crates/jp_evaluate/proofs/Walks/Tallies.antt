-- What is summed over the ways that lead to a value is what they come to there, and what the next
-- segments choose.
use Rattle.std.proofs.Common.{◌≡◌, ◌≤◌, ◌<◌, ◌+◌, ◌*◌, ℕ, Bool, true, false, if◌then◌else◌}
use Rattle.std.proofs.Common.{List, [], ◌∷◌, Some, drop, length, map, nat_le}
use Rattle.std.proofs.Common.{refl, ap, ap₂, sym, ◌∙◌, arith}
use Rattle.std.specs.List.{All, flat_map, sum_by}
use Rattle.std.proofs.lemmas.Bool.{leb-false, leb-true}
use Rattle.std.proofs.lemmas.List.Elements.{All-append, All-drop, All-map, All-nil, All-weaker}
use Rattle.std.proofs.lemmas.List.Sums.{sum_by-append, sum_by-cons}
use Rattle.std.proofs.lemmas.Option.{slice_get_past}
use Rattle.jp_document.specs.Location.{Step, Location, child, entries}
use Rattle.jp_document.specs.Node.{Node, root_of}
use Rattle.jp_document.specs.Value.{IsDocumentValue, Value}
use Rattle.jp_tree.specs.Tree.{SegmentTree, SegmentTrees, SelectorTree, no_segments, segment_then}
use Rattle.jp_tree.specs.Tree.{segments}
use Rattle.jp_tree.specs.Views.{segment_of}
use Rattle.jp_tree.specs.declared.tree.Segment.{Segment}
use Rattle.jp_select.proofs.Chosen.{StandsBelow, candidates_stand}
use Rattle.jp_select.proofs.Walks.{drop_past}
use Rattle.jp_select.specs.Selectors.{candidates}
use Rattle.jp_select.specs.Subtree.{beyond}
use Rattle.jp_evaluate.specs.declared.tally.Way.{Way}
use Rattle.jp_evaluate.specs.declared.tally.Ways.{Ways}
use Rattle.jp_evaluate.specs.Private.Tally.{all_ways, choice_sum, choices_at, ended}
use Rattle.jp_evaluate.specs.Private.Tally.{node_sum, reached_sum, spread_sum, spread_weight}
use Rattle.jp_evaluate.specs.Private.Tally.{way_weight, ways_sum}
use Rattle.jp_evaluate.specs.Private.Walk.{Choice, choice_at, choice_of, choice_reaches, choice_weight}
use Rattle.jp_evaluate.specs.Private.Walk.{choices_from, chosen_node, passes, reaches, segments_left}
use Rattle.jp_evaluate.specs.Private.Walk.{turn_choices, turns, weight}
use Rattle.jp_evaluate.proofs.Nodelists.Anywhere.{reaches-anywhere}
use Rattle.jp_evaluate.proofs.Walks.Advances.{passes-anywhere, there}
use Rattle.jp_evaluate.proofs.Walks.Reaching.{enters, enters_less}
use Rattle.jp_evaluate.proofs.Walks.Leaves.{no_choices, no_entries}
use Rattle.jp_evaluate.proofs.Walks.WaySums.{sum-none, sum-plus}

-- ---- nodes

node_sum-beyond : (f : Value → ℕ) (l : Location) (ns : List Node)
    → node_sum f (map (beyond l) ns) ≡ node_sum f ns
node_sum-beyond f l [] = refl
node_sum-beyond f l (n ∷ ns) =
    sum_by-cons (λ (m : Node). f m.value) (beyond l n) (map (beyond l) ns)
    ∙ ap (λ k. f n.value + k) (node_sum-beyond f l ns)
    ∙ sym (sum_by-cons (λ (m : Node). f m.value) n ns)

anywhere : (f : Value → ℕ) (all : SegmentTrees) (d : Value) (n : Node)
    → node_sum f (reaches all d n) ≡ node_sum f (reaches all d (root_of n.value))
anywhere f all d n =
    ap (node_sum f) (reaches-anywhere all d n)
    ∙ node_sum-beyond f n.location (reaches all d (root_of n.value))

-- how many nodes
pub node_sum-ones : (ns : List Node) → node_sum (λ v. 1) ns ≡ length ns
node_sum-ones [] = refl
node_sum-ones (n ∷ ns) =
    let here = sum_by-cons (λ (m : Node). 1) n ns in
    let rest = node_sum-ones ns in
    omega arith

-- ---- choices

choice_sum-reaches : (f : Value → ℕ) (d : Value) (l : Location) (c : Choice)
    → node_sum f (choice_reaches d (choice_at l c)) ≡ choice_sum f d c
choice_sum-reaches f d l c =
    let n = chosen_node (choice_at l c) in
    ap (λ b. node_sum f (if b then reaches c.left d n else [])) (passes-anywhere c.test d n)
    ∙ decided (passes c.test d (root_of c.value))
  where
    decided : (b : Bool) → node_sum f (if b then reaches c.left d (chosen_node (choice_at l c)) else [])
        ≡ (if b then node_sum f (reaches c.left d (root_of c.value)) else 0)
    decided true = anywhere f c.left d (chosen_node (choice_at l c))
    decided false = refl

choices_sum : (f : Value → ℕ) (d : Value) (l : Location) (cs : List Choice)
    → node_sum f (flat_map (choice_reaches d) (map (choice_at l) cs)) ≡ sum_by (choice_sum f d) cs
choices_sum f d l [] = refl
choices_sum f d l (c ∷ cs) =
    sum_by-append (λ (m : Node). f m.value) (choice_reaches d (choice_at l c))
    (flat_map (choice_reaches d) (map (choice_at l) cs))
    ∙ ap₂ (λ a b. a + b) (choice_sum-reaches f d l c) (choices_sum f d l cs)
    ∙ sym (sum_by-cons (choice_sum f d) c cs)

next_sum : (f : Value → ℕ) (s : SegmentTree) (rest all : SegmentTrees) (d v : Value)
    → all ≡ segment_then s rest
    → node_sum f (reaches all d (root_of v)) ≡ sum_by (choice_sum f d) (choices_from v (turns all) 0)
next_sum f s rest all d v is =
    ap (node_sum f) (enters s rest all d v [] is)
    ∙ choices_sum f d [] (choices_from v (turns all) 0)

weights : (cs : List Choice) → sum_by choice_weight (map (choice_at []) cs)
    ≡ sum_by (λ c. weight c.left c.value) cs
weights [] = refl
weights (c ∷ cs) =
    sum_by-cons choice_weight (choice_at [] c) (map (choice_at []) cs)
    ∙ ap (λ k. weight c.left c.value + k) (weights cs)
    ∙ sym (sum_by-cons (λ (x : Choice). weight x.left x.value) c cs)

-- ---- ways

plus_none : (n : ℕ) → n + 0 ≡ n
plus_none n = omega arith

none_left : (all : List Segment) (done : ℕ) → length all ≤ done → segments_left all done ≡ no_segments
none_left all done past =
    ap (λ xs. segments (map segment_of xs)) (drop_past all done (slice_get_past all done past))

no_choices_left : (all : List Segment) (v : Value) (done : ℕ) → length all ≤ done
    → choices_at all v done ≡ []
no_choices_left all v done past = ap (λ left. choices_from v (turns left) 0) (none_left all done past)

zero_times : (n : ℕ) → n * 0 ≡ 0
zero_times n = omega arith

-- what ways come to at v
pub way_splits : (f : Value → ℕ) (all : List Segment) (d v : Value) (w : Way)
    → reached_sum f all d v w ≡ ended (length all) w * f v + spread_sum f all d v w
way_splits f all d v w = decided (nat_le (length all) w.done) refl
  where
    sum_at : ℕ
    sum_at = sum_by (choice_sum f d) (choices_at all v w.done)

    decided : (b : Bool) → nat_le (length all) w.done ≡ b
        → reached_sum f all d v w ≡ (if b then w.count else 0) * f v + spread_sum f all d v w
    decided true is =
        let past : length all ≤ w.done = leb-true (length all) w.done is in
        let here = ap (λ left. node_sum f (reaches left d (root_of v))) (none_left all w.done past) in
        let one = sum_by-cons (λ (n : Node). f n.value) (root_of v) [] in
        let none = ap (sum_by (choice_sum f d)) (no_choices_left all v w.done past) in
        let nothing = ap (λ k. w.count * k) none ∙ zero_times w.count in
        let same = ap (λ k. w.count * k) (here ∙ one) in
        let plain : w.count * (f v + 0) ≡ w.count * f v = ap (λ k. w.count * k) (plus_none (f v)) in
        omega arith
    decided false is =
        let before : w.done < length all = leb-false (length all) w.done is in
        let next = there all w.done before in
        let same = ap (λ k. w.count * k)
        (next_sum f (segment_of next.0) (segments_left all (w.done + 1)) (segments_left all w.done) d v next.1) in
        omega arith

pub ways_split : (f : Value → ℕ) (all : List Segment) (d v : Value) (ws : Ways)
    → ways_sum (reached_sum f all d v) ws
    ≡ ways_sum (λ w. ended (length all) w * f v) ws + ways_sum (spread_sum f all d v) ws
ways_split f all d v ws =
    sum-plus (reached_sum f all d v) (λ w. ended (length all) w * f v) (spread_sum f all d v)
    (all_ways ws) (way_splits f all d v)

-- nothing is chosen where there is nothing inside
pub leaf-sum : (f : Value → ℕ) (all : List Segment) (d v : Value) (ws : Ways)
    → length (entries v) ≡ 0 → ways_sum (spread_sum f all d v) ws ≡ 0
leaf-sum f all d v ws none =
    sum-none (spread_sum f all d v) (all_ways ws)
    (λ w. ap (λ cs. w.count * sum_by (choice_sum f d) cs)
    (no_choices v (turns (segments_left all w.done)) (no_entries v (omega (arith, none))))
    ∙ zero_times w.count)

-- ---- how many choices there are

pub way_heavier : (all : List Segment) (v : Value) (w : Way)
    → spread_weight all v w.done < way_weight all v w
way_heavier all v w = decided (nat_le (length all) w.done) refl
  where
    decided : (b : Bool) → nat_le (length all) w.done ≡ b
        → spread_weight all v w.done < way_weight all v w
    decided true is =
        let past : length all ≤ w.done = leb-true (length all) w.done is in
        let none = ap (sum_by (λ c. weight c.left c.value)) (no_choices_left all v w.done past) in
        let one = ap (λ left. weight left v) (none_left all w.done past) in
        omega arith
    decided false is =
        let before : w.done < length all = leb-false (length all) w.done is in
        let next = there all w.done before in
        let more = enters_less (segment_of next.0) (segments_left all (w.done + 1))
        (segments_left all w.done) v [] next.1 in
        let same = weights (choices_at all v w.done) in
        omega arith

pub ways_heavier : (all : List Segment) (v : Value) (ws : Ways)
    → ways_sum (λ w. spread_weight all v w.done) ws < ways_sum (way_weight all v) ws
ways_heavier all v ws =
    let light = sum_by-cons (λ (w : Way). spread_weight all v w.done) ws.first ws.more.items in
    let heavy = sum_by-cons (way_weight all v) ws.first ws.more.items in
    let first = way_heavier all v ws.first in
    let more = rest ws.more.items in
    omega arith
  where
    rest : (xs : List Way) → sum_by (λ w. spread_weight all v w.done) xs ≤ sum_by (way_weight all v) xs
    rest [] = omega arith
    rest (x ∷ xs) =
        let light = sum_by-cons (λ (w : Way). spread_weight all v w.done) x xs in
        let heavy = sum_by-cons (way_weight all v) x xs in
        let this = way_heavier all v x in
        let more = rest xs in
        omega arith

-- ---- where choices stand

-- a choice is the value at a step
abbrev pub IsInside : Value → Choice → Type 0
IsInside v c = (k : Step) × (c.step ≡ k ∷ []) × (child v k ≡ Some c.value)

turn-inside : (v : Value) (t : SelectorTree × SegmentTrees) → IsDocumentValue v
    → All (IsInside v) (turn_choices v t)
turn-inside v t document =
    All-map (IsInside v) (choice_of t) (candidates t.0 v)
    (All-weaker (StandsBelow v) (λ e. IsInside v (choice_of t e)) (λ e at. (e.0, refl, at))
    (candidates t.0 v) (candidates_stand t.0 v document))

turns-inside : (v : Value) (ts : List (SelectorTree × SegmentTrees)) → IsDocumentValue v
    → All (IsInside v) (flat_map (turn_choices v) ts)
turns-inside v [] document = All-nil (IsInside v)
turns-inside v (t ∷ ts) document =
    All-append (IsInside v) (turn_choices v t) (flat_map (turn_choices v) ts)
    (turn-inside v t document) (turns-inside v ts document)

pub choices-inside : (v : Value) (ts : List (SelectorTree × SegmentTrees)) (k : ℕ)
    → IsDocumentValue v → All (IsInside v) (choices_from v ts k)
choices-inside v [] k document = All-nil (IsInside v)
choices-inside v (t ∷ ts) k document =
    All-append (IsInside v) (drop k (turn_choices v t)) (flat_map (turn_choices v) ts)
    (All-drop (IsInside v) k (turn_choices v t) (turn-inside v t document))
    (turns-inside v ts document)
