-- How many steps walks have to make, choice by choice.
use Rattle.std.proofs.Common.{◌≡◌, ℕ, suc, ◌+◌, ◌≤◌, ◌<◌, Bool, true, false, if◌then◌else◌, List, [], ◌∷◌, ◌++◌}
use Rattle.std.proofs.Common.{Some, None, length, map, option_to_list, refl, ap, ap₂, sym, ◌∙◌, arith}
use Rattle.std.specs.List.{flat_map, sum_by}
use Rattle.std.proofs.lemmas.Grind.{flat_map-append}
use Rattle.std.proofs.lemmas.List.{append-nil, length-append}
use Rattle.std.proofs.lemmas.List.Elements.{All-head, All-tail}
use Rattle.std.proofs.lemmas.List.Sums.{sum_by-append, sum_by-cons}
use Rattle.std.specs.List.{All}
use Rattle.jp_document.specs.Location.{Location, Step, entries}
use Rattle.jp_document.specs.Node.{Node, root_of}
use Rattle.jp_document.specs.Value.{Value}
use Rattle.jp_tree.specs.Tree.{SegmentTree, SegmentTrees, SelectorTree, SelectorTrees, no_segments, no_selectors}
use Rattle.jp_tree.specs.Tree.{segment, segment_then, segments, selector_then, selectors, wildcard}
use Rattle.jp_tree.specs.Views.{segment_of, selector_of}
use Rattle.jp_tree.specs.declared.tree.Segment.{Segment}
use Rattle.jp_tree.specs.declared.tree.Selector.{Selector}
use Rattle.jp_select.proofs.Locations.{inner, nodes_in-entries}
use Rattle.jp_select.proofs.Walks.{drop_past}
use Rattle.std.proofs.lemmas.Option.{slice_get_past}
use Rattle.jp_select.specs.Selectors.{candidates}
use Rattle.jp_evaluate.specs.Cost.{cost, entering_cost, selector_count, selectors_cost, unless_leaf, value_cost}
use Rattle.jp_evaluate.specs.Private.Due.{choice_cost, walk_cost}
use Rattle.jp_evaluate.specs.Private.Walk.{Choice, LeadsNowhere, Skips, choice_at, choice_of, choices_from, entered}
use Rattle.jp_evaluate.specs.Private.Walk.{frame_choices, frames_pending, passes, selector_turns, segments_left}
use Rattle.jp_evaluate.specs.Private.Walk.{test_of, turn_choices, turns, walk_frames}
use Rattle.jp_evaluate.specs.declared.walk.Frame.{Frame}
use Rattle.jp_evaluate.specs.declared.walk.Reached.{Reached}
use Rattle.jp_evaluate.specs.declared.walk.Walk.{Walk}
use Rattle.jp_evaluate.proofs.Walks.Choices.{choices_all, drop_none, pending-push, pending_frames}
use Rattle.jp_evaluate.proofs.Walks.Advances.{there}
use Rattle.jp_evaluate.proofs.Walks.Leaves.{no_choices, no_entries}
use Rattle.jp_evaluate.proofs.Walks.Reaching.{inners_weight}

pub counts-selectors : (xs : List Selector) → selector_count (selectors (map selector_of xs)) ≡ length xs
counts-selectors [] = refl
counts-selectors (x ∷ xs) = ap suc (counts-selectors xs)

-- ---- a value that is gone into

candidates-cost : (d : Value) (s : SelectorTree) (rest : SegmentTrees) (es : List (Step × Value))
    → sum_by (choice_cost d) (map (choice_of (s, rest)) es)
    ≡ sum_by (λ e. if passes (test_of s) d (root_of e.1) then cost rest d e.1 else 1) es
candidates-cost d s rest [] = refl
candidates-cost d s rest (e ∷ es) =
    let f = λ (x : Step × Value). if passes (test_of s) d (root_of x.1) then cost rest d x.1 else 1 in
    sum_by-cons (choice_cost d) (choice_of (s, rest) e) (map (choice_of (s, rest)) es)
    ∙ ap (λ n. f e + n) (candidates-cost d s rest es)
    ∙ sym (sum_by-cons f e es)

selectors-cost : (d v : Value) (ss : SelectorTrees) (rest : SegmentTrees)
    → sum_by (choice_cost d) (flat_map (turn_choices v) (selector_turns rest ss))
    ≡ selectors_cost ss (cost rest d) d v
selectors-cost d v no_selectors rest = refl
selectors-cost d v (selector_then s ss) rest =
    sum_by-append (choice_cost d) (turn_choices v (s, rest)) (flat_map (turn_choices v) (selector_turns rest ss))
    ∙ ap₂ (λ m n. m + n) (candidates-cost d s rest (candidates s v)) (selectors-cost d v ss rest)

all-cost : (d v : Value) (all : SegmentTrees) (s : SegmentTree) (rest : SegmentTrees) → all ≡ segment_then s rest
    → cost all d v ≡ value_cost all v + sum_by (choice_cost d) (flat_map (turn_choices v) (turns all))
all-cost d v no_segments s rest is = absurd (cc)
all-cost d v (segment_then (segment false ss) rest) s more is =
    ap (λ n. value_cost (segment_then (segment false ss) rest) v + n)
    (sym (selectors-cost d v ss rest)
    ∙ ap (λ ts. sum_by (choice_cost d) (flat_map (turn_choices v) ts)) (sym (append-nil (selector_turns rest ss))))
all-cost d v (segment_then (segment true ss) rest) s more is =
    let all = segment_then (segment true ss) rest in
    let own = selector_turns rest ss in
    let here = flat_map (turn_choices v) own in
    let below = turn_choices v (wildcard, all) in
    let f = λ (w : Value). value_cost all w + selectors_cost ss (cost rest d) d w in
    let first = ap (sum_by (λ (n : Node). f n.value)) (nodes_in-entries v)
    ∙ sum_by-cons (λ (n : Node). f n.value) (root_of v) (flat_map inner (entries v)) in
    let inside = inners_weight f (entries v) ∙ sym (candidates-cost d wildcard all (entries v)) in
    let mine = selectors-cost d v ss rest in
    let choices = ap (sum_by (choice_cost d))
    (flat_map-append (turn_choices v) own ((wildcard, all) ∷ []) ∙ ap (λ t. here ++ t) (append-nil below))
    ∙ sum_by-append (choice_cost d) here below in
    omega arith

-- that, and what its choices lead to
pub enters-cost : (d v : Value) (all : SegmentTrees) (s : SegmentTree) (rest : SegmentTrees)
    → all ≡ segment_then s rest
    → cost all d v ≡ value_cost all v + sum_by (choice_cost d) (choices_from v (turns all) 0)
enters-cost d v all s rest is =
    all-cost d v all s rest is
    ∙ ap (λ cs. value_cost all v + sum_by (choice_cost d) cs) (sym (choices_all v (turns all)))

-- ---- choices that take no more than the step to them

leaf-cost : (d v : Value) (all : SegmentTrees) (s : SegmentTree) (rest : SegmentTrees) → all ≡ segment_then s rest
    → entries v ≡ [] → cost all d v ≡ 1
leaf-cost d v all s rest is leaf =
    enters-cost d v all s rest is
    ∙ ap₂ (λ es cs. suc (unless_leaf es (entering_cost all)) + sum_by (choice_cost d) cs) leaf
    (no_choices v (turns all) leaf)

one-if : (b : Bool) (n : ℕ) → n ≡ 1 → (if b then n else 1) ≡ 1
one-if true n is = is
one-if false n is = refl

nowhere-cost : (d : Value) (c : Choice) → LeadsNowhere c → choice_cost d c ≡ 1
nowhere-cost d c idle =
    one-if (passes c.test d (root_of c.value)) (cost c.left d c.value)
    (leaf-cost d c.value c.left idle.segment idle.rest idle.left idle.leaf)

nowhere-costs : (d : Value) (cs : List Choice) → All LeadsNowhere cs → sum_by (choice_cost d) cs ≡ length cs
nowhere-costs d [] such = refl
nowhere-costs d (c ∷ cs) such =
    let sum = sum_by-cons (choice_cost d) c cs in
    let one = nowhere-cost d c (All-head LeadsNowhere c cs such) in
    let rest = nowhere-costs d cs (All-tail LeadsNowhere c cs such) in
    omega arith

-- each that is skipped takes one
pub skips-cost : (d : Value) (xs ys : List Choice) → Skips LeadsNowhere xs ys
    → sum_by (choice_cost d) xs + length ys ≡ length xs + sum_by (choice_cost d) ys
skips-cost d xs ys skips =
    let sum = ap (sum_by (choice_cost d)) skips.is ∙ sum_by-append (choice_cost d) skips.skipped ys in
    let long = ap length skips.is ∙ length-append skips.skipped ys in
    let each = nowhere-costs d skips.skipped skips.such in
    omega arith

-- ---- walks

abbrev pub frame_cost : {V : Type 0} → (V → Value) → List Segment → Value → Frame V → ℕ
frame_cost m all d f = sum_by (choice_cost d) (frame_choices m all f)

-- of the frames alone
abbrev pub frames_cost : {V : Type 0} → (V → Value) → List Segment → Value → List (Frame V) → ℕ
frames_cost m all d fs = sum_by (λ c. choice_cost d c.1) (frames_pending m all [] fs)

at-same : (d : Value) (l : Location) (cs : List Choice)
    → sum_by (λ c. choice_cost d c.1) (map (choice_at l) cs) ≡ sum_by (choice_cost d) cs
at-same d l [] = refl
at-same d l (c ∷ cs) =
    let f = λ (x : Location × Choice). choice_cost d x.1 in
    sum_by-cons f (choice_at l c) (map (choice_at l) cs)
    ∙ ap (λ n. choice_cost d c + n) (at-same d l cs)
    ∙ sym (sum_by-cons (choice_cost d) c cs)

pub frames-cost : {V : Type 0} (m : V → Value) (all : List Segment) (d : Value) (w : Walk V) (fs : List (Frame V))
    → w.first ≡ None → walk_frames w ≡ fs → walk_cost m all d w ≡ frames_cost m all d fs
frames-cost m all d w fs first frames =
    ap (sum_by (λ (c : Location × Choice). choice_cost d c.1)) (pending_frames m all w fs first frames)

pub last-cost : {V : Type 0} (m : V → Value) (all : List Segment) (d : Value) (fs : List (Frame V)) (f : Frame V)
    → frames_cost m all d (fs ++ f ∷ []) ≡ frame_cost m all d f + frames_cost m all d fs
last-cost m all d fs f =
    let g = λ (x : Location × Choice). choice_cost d x.1 in
    let mine = frame_choices m all f in
    ap (sum_by g) (pending-push m all [] fs f)
    ∙ sum_by-append g (map (choice_at _) mine) (frames_pending m all [] fs)
    ∙ ap (λ n. n + frames_cost m all d fs) (at-same d _ mine)

-- of the last frame, which stands apart, and of those below
pub top-cost : {V : Type 0} (m : V → Value) (all : List Segment) (d : Value) (w : Walk V) (f : Frame V)
    → w.first ≡ None → w.top ≡ Some f
    → walk_cost m all d w ≡ frame_cost m all d f + frames_cost m all d w.below.items
top-cost m all d w f first top =
    frames-cost m all d w (w.below.items ++ f ∷ []) first (ap (λ t. w.below.items ++ option_to_list t) top)
    ∙ last-cost m all d w.below.items f

-- ---- a choice that was offered

pub failed-cost : (d : Value) (c : Choice) → passes c.test d (root_of c.value) ≡ false → choice_cost d c ≡ 1
failed-cost d c fails = ap (λ b. if b then cost c.left d c.value else 1) fails

pub passed-cost : (d : Value) (c : Choice) → passes c.test d (root_of c.value) ≡ true
    → choice_cost d c ≡ cost c.left d c.value
passed-cost d c passed = ap (λ b. if b then cost c.left d c.value else 1) passed

-- where no segment is left
pub ended-cost : (all : List Segment) (done : ℕ) (d v : Value) → length all ≤ done
    → cost (segments_left all done) d v ≡ 1
ended-cost all done d v past =
    ap (λ xs. cost (segments (map segment_of xs)) d v) (drop_past all done (slice_get_past all done past))

-- with nothing inside it
pub shut-cost : (all : List Segment) (done : ℕ) (d v : Value) → done < length all → length (entries v) ≡ 0
    → cost (segments_left all done) d v ≡ 1
shut-cost all done d v more shut =
    let next = there all done more in
    leaf-cost d v (segments_left all done) (segment_of next.0) (segments_left all (done + 1)) next.1
    (no_entries v (omega (arith, shut)))

inside-most : (es : List (Step × Value)) (n : ℕ) → unless_leaf es n ≤ n
inside-most [] n = omega arith
inside-most (e ∷ es) n = omega arith

-- a walk that goes on from a value has all that is behind it
pub entered-cost : {V : Type 0} (m : V → Value) (all : List Segment) (d : Value) (v u : Walk V) (p : Reached V)
    → v.first ≡ None → p.done < length all → u.first ≡ v.first → walk_frames u ≡ walk_frames v ++ entered p ∷ []
    → cost (segments_left all p.done) d (m p.value) + walk_cost m all d v
    ≤ suc (entering_cost (segments_left all p.done) + walk_cost m all d u)
entered-cost m all d v u p begun more same frames =
    let left = segments_left all p.done in
    let next = there all p.done more in
    let is = enters-cost d (m p.value) left (segment_of next.0) (segments_left all (p.done + 1)) next.1 in
    let most = inside-most (entries (m p.value)) (entering_cost left) in
    let before = frames-cost m all d v (walk_frames v) begun refl in
    let after = frames-cost m all d u (walk_frames v ++ entered p ∷ []) (same ∙ begun) frames
    ∙ last-cost m all d (walk_frames v) (entered p) in
    let mine = ap (λ ts. sum_by (choice_cost d) (choices_from (m p.value) ts 0)) (drop_none (turns left)) in
    omega arith
