-- What a frame of a walk still has to choose: its turns, which are selectors with the segments after
-- them, one after another, and of a turn the candidates from a position on.
use Rattle.std.proofs.Common.{◌≡◌, ◌≤◌, ℕ, suc, ◌+◌, ◌-◌, List, [], ◌∷◌, ◌++◌, Option, Some, length}
use Rattle.std.proofs.Common.{None, drop, map, option_and_then, option_map, option_to_list, Vec}
use Rattle.std.proofs.Common.{Global, refl, ap, ap₂, sym, ◌∙◌, append_assoc, arith}
use Rattle.std.specs.List.{flat_map, slice_get}
use Rattle.std.proofs.lemmas.List.{append-nil, drop-map, length-append, length-drop}
use Rattle.std.proofs.lemmas.Option.{slice_get-map}
use Rattle.jp_document.specs.Location.{Step, Location, entries}
use Rattle.jp_document.specs.Value.{Value}
use Rattle.jp_tree.specs.Tree.{SegmentTree, SegmentTrees, SelectorTree, segment_then, wildcard}
use Rattle.jp_tree.specs.declared.tree.Segment.{Segment}
use Rattle.jp_select.proofs.Walks.{drop_at, drop_past}
use Rattle.jp_select.specs.Selectors.{candidates}
use Rattle.jp_evaluate.specs.Private.Walk.{Choice, choice_at, choice_of, choices_from}
use Rattle.jp_evaluate.specs.Private.Walk.{LeadsNowhere, LeadsNowhereAt, IsLeaf, Skips, frame_choices, frames_pending, pending, reached_at, segments_left, turns}
use Rattle.jp_evaluate.specs.Private.Walk.{start_choice, steps_of, turn_choices, walk_frames}
use Rattle.jp_evaluate.proofs.Walks.Skipping.{skips-before, skips-from, skips-map, skips-same, skips-then}
use Rattle.jp_evaluate.specs.declared.walk.Frame.{Frame}
use Rattle.jp_evaluate.specs.declared.walk.Reached.{Reached}
use Rattle.jp_evaluate.specs.declared.walk.Walk.{Walk}

-- ---- the choices of turns

-- the next of a turn
pub choice_next : (v : Value) (ts : List (SelectorTree × SegmentTrees)) (i k : ℕ)
    (t : SelectorTree × SegmentTrees) (e : Step × Value) → slice_get ts i ≡ Some t
    → slice_get (candidates t.0 v) k ≡ Some e
    → choices_from v (drop i ts) k ≡ choice_of t e ∷ choices_from v (drop i ts) (k + 1)
choice_next v ts i k t e at entry =
    let here : slice_get (turn_choices v t) k ≡ Some (choice_of t e) =
    slice_get-map (choice_of t) (candidates t.0 v) k ∙ ap (option_map (choice_of t)) entry in
    let next : suc k ≡ k + 1 = omega arith in
    let rest = drop_at ts i t at in
    ap (λ us. choices_from v us k) rest
    ∙ ap (λ cs. cs ++ flat_map (turn_choices v) (drop (suc i) ts))
    (drop_at (turn_choices v t) k (choice_of t e) here)
    ∙ ap (λ n. choice_of t e ∷ choices_from v (t ∷ drop (suc i) ts) n) next
    ∙ ap (λ us. choice_of t e ∷ choices_from v us (k + 1)) (sym rest)

pub drop_none : {X : Type 0} (xs : List X) → drop 0 xs ≡ xs
drop_none [] = refl
drop_none (x ∷ xs) = refl

pub choices_all : (v : Value) (ts : List (SelectorTree × SegmentTrees))
    → choices_from v ts 0 ≡ flat_map (turn_choices v) ts
choices_all v [] = refl
choices_all v (t ∷ ts) =
    ap (λ cs. cs ++ flat_map (turn_choices v) ts) (drop_none (turn_choices v t))

none_of : (t : SelectorTree × SegmentTrees) (o : Option (Step × Value)) → o ≡ None
    → option_map (choice_of t) o ≡ None
none_of t None is = refl
none_of t (Some e) is = absurd (cc)

-- a turn without more goes over to the next
pub turn_next : (v : Value) (ts : List (SelectorTree × SegmentTrees)) (i k : ℕ)
    (t : SelectorTree × SegmentTrees) → slice_get ts i ≡ Some t
    → slice_get (candidates t.0 v) k ≡ None
    → choices_from v (drop (i + 1) ts) 0 ≡ choices_from v (drop i ts) k
turn_next v ts i k t at past =
    let none : slice_get (turn_choices v t) k ≡ None =
    slice_get-map (choice_of t) (candidates t.0 v) k
    ∙ none_of t (slice_get (candidates t.0 v) k) past in
    let next : i + 1 ≡ suc i = omega arith in
    choices_all v (drop (i + 1) ts)
    ∙ ap (λ n. flat_map (turn_choices v) (drop n ts)) next
    ∙ ap (λ cs. cs ++ flat_map (turn_choices v) (drop (suc i) ts))
    (sym (drop_past (turn_choices v t) k none))
    ∙ ap (λ us. choices_from v us k) (sym (drop_at ts i t at))

-- as many fewer as positions are gone on by, at most
positions-between : (v : Value) (ts : List (SelectorTree × SegmentTrees)) (i j : ℕ)
    → length (choices_from v ts i) ≤ (j - i) + length (choices_from v ts j)
positions-between v [] i j = omega arith
positions-between v (t ∷ ts) i j =
    let cs = turn_choices v t in
    let more = flat_map (turn_choices v) ts in
    let a = length-append (drop i cs) more in
    let b = length-append (drop j cs) more in
    let x = length-drop i cs in
    let y = length-drop j cs in
    omega arith

-- those of a frame that goes on in its turn
pub fewer-on : {V : Type 0} (means : V → Value) (all : List Segment) (f g : Frame V) → g.reached ≡ f.reached
    → g.turn ≡ f.turn
    → length (frame_choices means all f) ≤ (g.next - f.next) + length (frame_choices means all g)
fewer-on {V = X} means all f g reached same =
    let on = λ (p : Reached X) (i : ℕ). choices_from (means p.value) (drop i (turns (segments_left all p.done))) g.next in
    let there = ap length (ap₂ on (sym reached) (sym same)) in
    let fewer = positions-between (means f.reached.value) (drop f.turn (turns (segments_left all f.reached.done)))
    f.next g.next in
    omega arith

-- ---- choices that are skipped

-- those of a turn, and with it of all
pub turn-skips : (v : Value) (ts : List (SelectorTree × SegmentTrees)) (i k n : ℕ)
    (t : SelectorTree × SegmentTrees) → slice_get ts i ≡ Some t
    → Skips LeadsNowhere (drop k (turn_choices v t)) (drop n (turn_choices v t))
    → Skips LeadsNowhere (choices_from v (drop i ts) k) (choices_from v (drop i ts) n)
turn-skips v ts i k n t at skips =
    let more = flat_map (turn_choices v) (drop (suc i) ts) in
    let rest = drop_at ts i t at in
    skips-same LeadsNowhere (choices_from v (drop i ts) k) (drop n (turn_choices v t) ++ more) (choices_from v (drop i ts) n)
    (skips-from LeadsNowhere (choices_from v (drop i ts) k) (drop k (turn_choices v t) ++ more)
    (drop n (turn_choices v t) ++ more) (ap (λ us. choices_from v us k) rest)
    (skips-before LeadsNowhere (drop k (turn_choices v t)) (drop n (turn_choices v t)) more skips))
    (ap (λ us. choices_from v us n) (sym rest))

-- the leaves among a value's children, where a segment is left
pub leaves-skip : (v : Value) (k n : ℕ) (s : SegmentTree) (rest left : SegmentTrees) → left ≡ segment_then s rest
    → Skips IsLeaf (drop k (entries v)) (drop n (entries v))
    → Skips LeadsNowhere (drop k (turn_choices v (wildcard, left))) (drop n (turn_choices v (wildcard, left)))
leaves-skip v k n s rest left is skips =
    let make = choice_of (wildcard, left) in
    let es = entries v in
    skips-same LeadsNowhere (drop k (map make es)) (map make (drop n es)) (drop n (map make es))
    (skips-from LeadsNowhere (drop k (map make es)) (map make (drop k es)) (map make (drop n es)) (drop-map make k es)
    (skips-map IsLeaf LeadsNowhere make (drop k es) (drop n es)
    (λ e leaf. record { segment = s; rest = rest; left = is; leaf = leaf }) skips))
    (sym (drop-map make n es))

-- after the last turn there is no choice
pub turns_end : (v : Value) (ts : List (SelectorTree × SegmentTrees)) (i k : ℕ)
    → slice_get ts i ≡ None → choices_from v (drop i ts) k ≡ []
turns_end v ts i k past = ap (λ us. choices_from v us k) (drop_past ts i past)

-- ---- frames

pub reached-push : {V : Type 0} (l : Location) (fs : List (Frame V)) (f : Frame V)
    → reached_at l (fs ++ f ∷ []) ≡ reached_at l fs ++ steps_of f.reached.step
reached-push l [] f = refl
reached-push l (g ∷ fs) f = reached-push (l ++ steps_of g.reached.step) fs f

-- a last frame that stands apart
pub reached-top : {V : Type 0} (l : Location) (fs : List (Frame V)) (o : Option (Frame V))
    → reached_at l (fs ++ option_to_list o) ≡
    reached_at l fs ++ steps_of (option_and_then (λ f. f.reached.step) o)
reached-top l fs None = ap (reached_at l) (append-nil fs) ∙ sym (append-nil (reached_at l fs))
reached-top l fs (Some f) = reached-push l fs f

-- the last frame's choices come first
pub pending-push : {V : Type 0} (means : V → Value) (all : List Segment) (l : Location)
    (fs : List (Frame V)) (f : Frame V)
    → frames_pending means all l (fs ++ f ∷ []) ≡
    map (choice_at (reached_at l fs ++ steps_of f.reached.step)) (frame_choices means all f)
    ++ frames_pending means all l fs
pending-push means all l [] f =
    append_nil_again (map (choice_at (l ++ steps_of f.reached.step)) (frame_choices means all f))
  where
    append_nil_again : {X : Type 0} (xs : List X) → [] ++ xs ≡ xs ++ []
    append_nil_again [] = refl
    append_nil_again (x ∷ xs) = ap (λ t. x ∷ t) (append_nil_again xs)
pending-push means all l (g ∷ fs) f =
    let m = l ++ steps_of g.reached.step in
    ap (λ t. t ++ map (choice_at m) (frame_choices means all g)) (pending-push means all m fs f)
    ∙ append_assoc
    (map (choice_at (reached_at m fs ++ steps_of f.reached.step)) (frame_choices means all f))
    (frames_pending means all m fs) (map (choice_at m) (frame_choices means all g))

-- ---- walks

-- a walk whose first value was offered has what its frames have
pub pending_frames : {V : Type 0} (means : V → Value) (all : List Segment) (w : Walk V)
    (fs : List (Frame V)) → w.first ≡ None
    → walk_frames w ≡ fs → pending means all w ≡ frames_pending means all [] fs
pending_frames means all w fs first frames =
    ap₂
    (λ o gs. map (choice_at (reached_at [] gs)) (map (start_choice means all) (option_to_list o))
    ++ frames_pending means all [] gs) first frames

pub frames_alone : {V : Type 0} (means : V → Value) (all : List Segment) (w v : Walk V) → w.first ≡ None → v.first ≡ None
    → walk_frames w ≡ walk_frames v → pending means all w ≡ pending means all v
frames_alone means all w v first begun same =
    pending_frames means all w (walk_frames v) first same
    ∙ sym (pending_frames means all v (walk_frames v) begun refl)

module _ {V : Type 0} (means : V → Value) (all : List Segment) (before : List (Location × Choice)) (w v : Walk V)
    (f : Frame V) (first : w.first ≡ None) (begun : v.first ≡ None)
    (rest : Skips LeadsNowhereAt before (pending means all w)) (top : w.top ≡ Some f) where
  abbrev at_last : Location
  at_last = reached_at [] w.below.items ++ steps_of f.reached.step

  -- what its choices and those of the frames below are
  pending-last : pending means all w
      ≡ map (choice_at at_last) (frame_choices means all f) ++ frames_pending means all [] w.below.items
  pending-last =
      pending_frames means all w (w.below.items ++ f ∷ []) first
      (ap (λ t. w.below.items ++ option_to_list t) top)
      ∙ pending-push means all [] w.below.items f

  skips-last : (cs : List Choice) → Skips LeadsNowhere (frame_choices means all f) cs
      → Skips LeadsNowhereAt before (map (choice_at at_last) cs ++ frames_pending means all [] w.below.items)
  skips-last cs choices =
      let b = frames_pending means all [] w.below.items in
      let mine = map (choice_at at_last) (frame_choices means all f) in
      let left = map (choice_at at_last) cs in
      skips-then LeadsNowhereAt before (pending means all w) (left ++ b) rest
      (skips-from LeadsNowhereAt (pending means all w) (mine ++ b) (left ++ b) pending-last
      (skips-before LeadsNowhereAt mine left b
      (skips-map LeadsNowhere LeadsNowhereAt (choice_at at_last) (frame_choices means all f) cs (λ c idle. idle) choices)))

  -- the last frame's next choice
  pub frame_next : (g : Frame V) (c : Choice) → v.below ≡ w.below → v.top ≡ Some g → g.reached ≡ f.reached
      → Skips LeadsNowhere (frame_choices means all f) (c ∷ frame_choices means all g)
      → Skips LeadsNowhereAt before (choice_at (reached_at [] (walk_frames v)) c ∷ pending means all v)
  frame_next g c below new reached choices =
      let b = w.below.items in
      let frames : walk_frames v ≡ b ++ g ∷ [] =
      ap₂ (λ (x : Vec (Frame V) Global) t. x.items ++ option_to_list t) below new in
      let is = pending_frames means all v (b ++ g ∷ []) begun frames in
      let at : reached_at [] (walk_frames v) ≡ at_last =
      ap (reached_at []) frames
      ∙ reached-push [] b g ∙ ap (λ (p : Reached V). reached_at [] b ++ steps_of p.step) reached in
      skips-same LeadsNowhereAt before
      (map (choice_at at_last) (c ∷ frame_choices means all g) ++ frames_pending means all [] b)
      (choice_at (reached_at [] (walk_frames v)) c ∷ pending means all v)
      (skips-last (c ∷ frame_choices means all g) choices)
      (ap₂ (λ l t. choice_at l c ∷ t) (sym at)
      (ap
      (λ (p : Reached V). map (choice_at (reached_at [] b ++ steps_of p.step)) (frame_choices means all g)
      ++ frames_pending means all [] b) (sym reached) ∙ sym (is ∙ pending-push means all [] b g)))

  -- a frame without more choices is left
  pub frame_left : walk_frames v ≡ w.below.items → Skips LeadsNowhere (frame_choices means all f) []
      → Skips LeadsNowhereAt before (pending means all v)
  frame_left frames choices =
      skips-same LeadsNowhereAt before (frames_pending means all [] w.below.items) (pending means all v)
      (skips-last [] choices) (sym (pending_frames means all v w.below.items begun frames))
