-- What a walk still has to offer, frame by frame; m says what a value that is lent stands for.
use Rattle.std.specs.Prelude.{◌≡◌, ◌≤◌, ℕ, suc, ◌+◌, List, [], ◌∷◌, ◌++◌, if◌then◌else◌, Bool, true, false}
use Rattle.std.specs.Prelude.{Option, Some, None, drop, map, option_map, option_to_list, sum_by, take}
use Rattle.std.specs.List.{All, flat_map}
use Rattle.std.specs.Option.{option_map_or}
use Rattle.jp_document.specs.Location.{Step, Location, entries, step_of}
use Rattle.jp_document.specs.Node.{Node, node_at}
use Rattle.jp_document.specs.Value.{Value}
use Rattle.jp_document.specs.declared.location.Step as code
use Rattle.jp_tree.specs.Tree.{ExprTree, SegmentTree, SegmentTrees, SelectorTree, SelectorTrees}
use Rattle.jp_tree.specs.Views.{expr_of}
use Rattle.jp_tree.specs.Tree.{filter, no_segments, no_selectors, segment}
use Rattle.jp_tree.specs.Views.{segment_of}
use Rattle.jp_tree.specs.Tree.{segment_then, segments, selector_then, wildcard}
use Rattle.jp_tree.specs.Views.{selector_of}
use Rattle.jp_tree.specs.declared.tree.Segment.{Segment}
use Rattle.jp_select.specs.Selectors.{candidates}
use Rattle.jp_select.specs.Subtree.{nodes_in}
use Rattle.jp_evaluate.specs.Nodelist.{holds, result}
use Rattle.jp_evaluate.specs.declared.walk.Frame.{Frame}
use Rattle.jp_evaluate.specs.declared.walk.Offer.{Offer}
use Rattle.jp_evaluate.specs.declared.walk.Reached.{Reached}
use Rattle.jp_evaluate.specs.declared.walk.Turn.{Turn}
use Rattle.jp_evaluate.specs.declared.walk.Walk.{Walk}

-- a value to go on from: the test that it has to pass, the segments that are left, the step to it,
-- and the value
pub record Choice : Type 0 where
  pub test : Option ExprTree
  pub left : SegmentTrees
  pub step : Location
  pub value : Value

-- ---- what is chosen at a value

abbrev pub test_of : SelectorTree → Option ExprTree
test_of (filter e) = Some e
test_of _ = None

abbrev pub choice_of : SelectorTree × SegmentTrees → Step × Value → Choice
choice_of t e = record { test = test_of t.0; left = t.1; step = e.0 ∷ []; value = e.1 }

-- a selector with the segments after it
abbrev pub selector_turns : SegmentTrees → SelectorTrees → List (SelectorTree × SegmentTrees)
selector_turns rest no_selectors = []
selector_turns rest (selector_then s ss) = (s, rest) ∷ selector_turns rest ss

-- what a first segment has to choose by: each selector, and where it is a descendant segment, the
-- children, at which the same segments are left
abbrev pub turns : SegmentTrees → List (SelectorTree × SegmentTrees)
turns no_segments = []
turns (segment_then (segment descendant ss) rest) =
    selector_turns rest ss
    ++ (if descendant then (wildcard, segment_then (segment descendant ss) rest) ∷ [] else [])

abbrev pub turn_choices : Value → SelectorTree × SegmentTrees → List Choice
turn_choices v t = map (choice_of t) (candidates t.0 v)

-- those of the first turn from a position on, and all of the others
abbrev pub choices_from : Value → List (SelectorTree × SegmentTrees) → ℕ → List Choice
choices_from v [] position = []
choices_from v (t ∷ ts) position = drop position (turn_choices v t) ++ flat_map (turn_choices v) ts

-- ---- what the code's values stand for

abbrev pub segments_left : List Segment → ℕ → SegmentTrees
segments_left all done = segments (map segment_of (drop done all))

abbrev pub turn_selector : Turn → SelectorTree
turn_selector t = option_map_or (λ s. selector_of s.now) t.selector wildcard

abbrev pub turn_of : List Segment → Turn → SelectorTree × SegmentTrees
turn_of all t = (turn_selector t, segments_left all t.done)

abbrev pub steps_of : Option code.Step → Location
steps_of None = []
steps_of (Some s) = step_of s ∷ []

abbrev pub offered : {V : Type 0} → (V → Value) → List Segment → Offer V → Choice
offered m all o = record {
  test = option_map (λ e. expr_of e.now) o.test;
  left = segments_left all o.reached.done;
  step = steps_of o.reached.step;
  value = m o.reached.value;
}

-- where a walk begins
abbrev pub start_choice : {V : Type 0} → (V → Value) → List Segment → V → Choice
start_choice m all v =
    record { test = None; left = segments_left all 0; step = []; value = m v }

-- a value with nothing inside it, with the step to it
abbrev pub IsLeaf : Step × Value → Type 0
IsLeaf e = entries e.1 ≡ []

-- a choice with nothing inside it at which a segment is left, so that it leads nowhere
pub record LeadsNowhere (c : Choice) : Type 0 where
  pub segment : SegmentTree
  pub rest : SegmentTrees
  pub left : c.left ≡ segment_then segment rest
  pub leaf : entries c.value ≡ []

abbrev pub LeadsNowhereAt : Location × Choice → Type 0
LeadsNowhereAt c = LeadsNowhere c.1

-- the list goes on as after, behind some that are such
pub record Skips {A : Type 0} (IsSuch : A → Type 0) (before after : List A) : Type 0 where
  pub skipped : List A
  pub such : All IsSuch skipped
  pub is : before ≡ skipped ++ after

-- ---- frames

abbrev pub frame_choices : {V : Type 0} → (V → Value) → List Segment → Frame V → List Choice
frame_choices m all f =
    choices_from (m f.reached.value) (drop f.turn (turns (segments_left all f.reached.done))) f.next

-- a frame at its first choice
abbrev pub entered : {V : Type 0} → Reached V → Frame V
entered p = record { reached = p; turn = 0; next = 0 }

-- where the last frame stands, if the first begins at l
abbrev pub reached_at : {V : Type 0} → Location → List (Frame V) → Location
reached_at l [] = l
reached_at l (f ∷ fs) = reached_at (l ++ steps_of f.reached.step) fs

abbrev pub choice_at : Location → Choice → Location × Choice
choice_at l c = (l, c)

-- the choices of frames, each with where its frame stands; the last frame's come first
abbrev pub frames_pending : {V : Type 0} → (V → Value) → List Segment → Location → List (Frame V)
    → List (Location × Choice)
frames_pending m all l [] = []
frames_pending m all l (f ∷ fs) =
    frames_pending m all (l ++ steps_of f.reached.step) fs
    ++ map (choice_at (l ++ steps_of f.reached.step)) (frame_choices m all f)

abbrev pub walk_frames : {V : Type 0} → Walk V → List (Frame V)
walk_frames w = w.below.items ++ option_to_list w.top

-- the steps to the frames, each from the one before; the first has none
abbrev pub step_to : {V : Type 0} → Frame V → Option code.Step
step_to f = f.reached.step

abbrev pub walk_steps : {V : Type 0} → Walk V → List (Option code.Step)
walk_steps w = map step_to (walk_frames w)

-- as many frames as w keeps stand in v as in it, from the first on, and v kept no fewer
abbrev pub Keeps : {V : Type 0} → Walk V → Walk V → Type 0
Keeps v w = (w.kept ≤ v.kept) × (take w.kept (walk_steps w) ≡ take w.kept (walk_steps v))

abbrev pub pending : {V : Type 0} → (V → Value) → List Segment → Walk V → List (Location × Choice)
pending m all w =
    map (choice_at (reached_at [] (walk_frames w)))
    (map (start_choice m all) (option_to_list w.first))
    ++ frames_pending m all [] (walk_frames w)

-- ---- what choices lead to

-- what segments reach from one node
abbrev pub reaches : SegmentTrees → Value → Node → List Node
reaches all d n = result all d (n ∷ [])

abbrev pub passes : Option ExprTree → Value → Node → Bool
passes None d n = true
passes (Some e) d n = holds e d n

-- the node that a choice of a frame is, where the frame stands at c.0
abbrev pub chosen_node : Location × Choice → Node
chosen_node c = record { location = c.0 ++ c.1.step; value = c.1.value }

-- what a choice of a frame that stands at l reaches, in a document of value d
abbrev pub choice_reaches : Value → Location × Choice → List Node
choice_reaches d c =
    if passes c.1.test d (chosen_node c) then reaches c.1.left d (chosen_node c) else []

-- what a walk still reaches
abbrev pub walk_reaches : {V : Type 0} → (V → Value) → List Segment → Value → Walk V → List Node
walk_reaches m all d w = flat_map (choice_reaches d) (pending m all w)

-- where a value that the walk reached stands, with the value
abbrev pub reached_node : {V : Type 0} → (V → Value) → Walk V → Reached V → Node
reached_node m w p = record {
  location = reached_at [] (walk_frames w) ++ steps_of p.step;
  value = m p.value;
}

-- of the walk w a node of value x comes first, and v is what is left of it
pub record GivesChild {V : Type 0} (m : V → Value) (all : List Segment) (w : Walk V) (x : V) (v : Walk V) : Type 0 where
  pub place : Location
  pub first : (d : Value) → walk_reaches m all d w ≡ node_at place (m x) ∷ walk_reaches m all d v

-- ---- how many choices there are at most

abbrev pub selectors_weight : SelectorTrees → (Value → ℕ) → Value → ℕ
selectors_weight no_selectors f v = 0
selectors_weight (selector_then s ss) f v =
    sum_by (λ e. f e.1) (candidates s v) + selectors_weight ss f v

-- a value and all that may be chosen from it on, were every test passed
abbrev pub weight : SegmentTrees → Value → ℕ
weight no_segments v = 1
weight (segment_then (segment false ss) rest) v = suc (selectors_weight ss (weight rest) v)
weight (segment_then (segment true ss) rest) v =
    sum_by (λ n. suc (selectors_weight ss (weight rest) n.value)) (nodes_in v)

abbrev pub choice_weight : Location × Choice → ℕ
choice_weight c = weight c.1.left c.1.value

abbrev pub walk_weight : {V : Type 0} → (V → Value) → List Segment → Walk V → ℕ
walk_weight m all w = sum_by choice_weight (pending m all w)
