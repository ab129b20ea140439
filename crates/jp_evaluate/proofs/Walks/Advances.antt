-- The steps of a walk.
use Rattle.std.proofs.Common.{◌≡◌, ℕ, zero, suc, ◌+◌, ◌<◌, ◌≤◌, Bool, true, false, if◌then◌else◌}
use Rattle.std.proofs.Common.{List, [], ◌∷◌, ◌++◌, Option, Some, None, length, map}
use Rattle.std.proofs.Common.{slice_index_or, option_to_list, refl, ap, ap₂, sym, subst, ◌∙◌, arith, drop}
use Rattle.std.proofs.Common.{Bor, IfNone, OnSome}
use Rattle.std.specs.List.{flat_map, slice_get, sum_by}
use Rattle.std.specs.Option.{option_map_or}
use Rattle.std.proofs.lemmas.Grind.{flat_map-append}
use Rattle.std.proofs.lemmas.List.Sums.{sum_by-append, sum_by-cons}
use Rattle.jp_document.specs.Location.{Location, entries}
use Rattle.jp_document.specs.Node.{Node, node_at, root_of}
use Rattle.jp_document.specs.declared.location.Step as code
use Rattle.jp_lent.specs.Lending.{step_with}
use Rattle.jp_select.specs.Selectors.{candidates}
use Rattle.jp_document.specs.Value.{Value}
use Rattle.jp_tree.specs.Tree.{ExprTree, SegmentTrees, SelectorTree, segment_then, segments, wildcard}
use Rattle.jp_tree.specs.Views.{segment_of, selector_of}
use Rattle.jp_tree.specs.declared.tree.Segment.{Segment}
use Rattle.jp_tree.specs.declared.tree.Selector.{Selector}
use Rattle.jp_select.proofs.Walks.{drop_past}
use Rattle.std.proofs.lemmas.Option.{slice_get_past}
use Rattle.jp_evaluate.specs.Private.Walk.{LeadsNowhere, IsLeaf, frame_choices, turn_of}
use Rattle.jp_evaluate.specs.Private.Walk.{Choice, LeadsNowhereAt, Skips, choice_at, chosen_node, choice_reaches}
use Rattle.jp_evaluate.specs.Private.Walk.{choice_weight, choices_from, entered, frames_pending}
use Rattle.jp_evaluate.specs.Private.Walk.{offered, passes, pending, reached_at, reached_node}
use Rattle.jp_evaluate.specs.Private.Walk.{reaches}
use Rattle.jp_evaluate.specs.Private.Walk.{segments_left, start_choice, steps_of, test_of, turn_selector, turns}
use Rattle.jp_evaluate.specs.Private.Walk.{walk_frames, walk_reaches, walk_weight}
use Rattle.jp_evaluate.specs.declared.walk.Frame.{Frame}
use Rattle.jp_evaluate.specs.declared.walk.Offer.{Offer}
use Rattle.jp_evaluate.specs.declared.walk.Turn.{Turn}
use Rattle.jp_evaluate.specs.declared.walk.Reached.{Reached}
use Rattle.jp_evaluate.specs.declared.walk.Walk.{Walk}
use Rattle.jp_evaluate.proofs.Nodelists.Anywhere.{holds-anywhere}
use Rattle.jp_evaluate.proofs.Walks.Choices.{choice_next, drop_none, leaves-skip, pending-push, turn-skips}
use Rattle.jp_evaluate.proofs.Walks.Leaves.{no_choices, no_entries}
use Rattle.jp_evaluate.proofs.Walks.Reaching.{choice-weighs, enters, enters_less}
use Rattle.jp_evaluate.proofs.Walks.Skipping.{skips-flat, skips-less, skips-none, skips-same}
use Rattle.jp_evaluate.proofs.Walks.Turns.{segments_left-next}

-- the offer o of the walk that was w leaves the walk v
abbrev pub Offers : {V : Type 0} → (V → Value) → List Segment → Walk V → Offer V → Walk V → Type 0
Offers means all w o v =
    Skips LeadsNowhereAt (pending means all w)
    (choice_at (reached_at [] (walk_frames v)) (offered means all o) ∷ pending means all v)

-- a test is asked of the value alone
pub passes-anywhere : (t : Option ExprTree) (d : Value) (n : Node)
    → passes t d n ≡ passes t d (root_of n.value)
passes-anywhere None d n = refl
passes-anywhere (Some e) d n = holds-anywhere e d n

-- the segment that is next
abbrev pub IsThere : List Segment → ℕ → Type 0
IsThere all i =
    (s : Segment) × (segments_left all i ≡ segment_then (segment_of s) (segments_left all (i + 1)))

pub there : (all : List Segment) (i : ℕ) → i < length all → IsThere all i
there [] i within = absurd (omega arith)
there (x ∷ xs) i within = (
  slice_index_or (x ∷ xs) i x,
  segments_left-next (x ∷ xs) i (slice_index_or (x ∷ xs) i x) within
      (again (x ∷ xs) i x within),
)
  where
    again : (ys : List Segment) (j : ℕ) (y : Segment) → j < length ys
        → slice_index_or ys j y ≡ slice_index_or ys j (slice_index_or ys j y)
    again [] j y h = absurd (omega arith)
    again (z ∷ ys) zero y h = refl
    again (z ∷ ys) (suc j) y h = again ys j y (omega arith)

-- ---- choices that are skipped

-- a choice with nothing inside it reaches nothing
pub idle-nothing : (d : Value) (l : Location) (c : Choice) → LeadsNowhere c → reaches c.left d (node_at l c.value) ≡ []
idle-nothing d l c idle =
    enters idle.segment idle.rest c.left d c.value l idle.left
    ∙ ap (λ cs. flat_map (choice_reaches d) (map (choice_at l) cs))
    (no_choices c.value (turns c.left) idle.leaf)

idle-reaches : (d : Value) (c : Location × Choice) → LeadsNowhereAt c → choice_reaches d c ≡ []
idle-reaches d c idle =
    either (passes c.1.test d (chosen_node c)) (reaches c.1.left d (chosen_node c))
    (idle-nothing d (c.0 ++ c.1.step) c.1 idle)
  where
    either : (b : Bool) (ns : List Node) → ns ≡ [] → (if b then ns else []) ≡ []
    either true ns none = none
    either false ns none = refl

pub skipped-reach : (d : Value) (before after : List (Location × Choice)) → Skips LeadsNowhereAt before after
    → flat_map (choice_reaches d) before ≡ flat_map (choice_reaches d) after
skipped-reach d before after skips = skips-flat LeadsNowhereAt (choice_reaches d) before after (idle-reaches d) skips

offers-reach : {V : Type 0} (means : V → Value) (all : List Segment) (d : Value) (w v : Walk V) (o : Offer V)
    → Offers means all w o v → walk_reaches means all d w
    ≡ flat_map (choice_reaches d)
    (choice_at (reached_at [] (walk_frames v)) (offered means all o) ∷ pending means all v)
offers-reach means all d w v o gives =
    skipped-reach d (pending means all w)
    (choice_at (reached_at [] (walk_frames v)) (offered means all o) ∷ pending means all v) gives

offers-weigh : {V : Type 0} (means : V → Value) (all : List Segment) (w v : Walk V) (o : Offer V)
    → Offers means all w o v
    → choice_weight (choice_at (reached_at [] (walk_frames v)) (offered means all o)) + walk_weight means all v
    ≤ walk_weight means all w
offers-weigh means all w v o gives =
    let c = choice_at (reached_at [] (walk_frames v)) (offered means all o) in
    let less = skips-less LeadsNowhereAt choice_weight (pending means all w) (c ∷ pending means all v) gives in
    let sum = sum_by-cons choice_weight c (pending means all v) in
    omega arith

-- those of a frame on the way down that have nothing inside them
pub frame-skips : {V : Type 0} (means : V → Value) (all : List Segment) (f g : Frame V) (turn : Turn)
    → g.reached ≡ f.reached → g.turn ≡ f.turn
    → slice_get (turns (segments_left all f.reached.done)) f.turn ≡ Some (turn_of all turn)
    → IfNone turn.selector (turn.done < length all) → OnSome turn.selector (g.next ≡ f.next)
    → Skips IsLeaf (drop f.next (entries (means f.reached.value))) (drop g.next (entries (means f.reached.value)))
    → Skips LeadsNowhere (frame_choices means all f) (frame_choices means all g)
frame-skips {V = X} means all f g turn reached same at inside others leaves = go turn.selector refl
  where
    v : Value
    v = means f.reached.value

    ts : List (SelectorTree × SegmentTrees)
    ts = turns (segments_left all f.reached.done)

    on : ℕ → List Choice
    on n = choices_from v (drop f.turn ts) n

    after : on g.next ≡ frame_choices means all g
    after =
        ap₂ (λ (p : Reached X) (i : ℕ). choices_from (means p.value) (drop i (turns (segments_left all p.done))) g.next)
        (sym reached) (sym same)

    go : (o : Option (Bor Selector)) → turn.selector ≡ o
        → Skips LeadsNowhere (frame_choices means all f) (frame_choices means all g)
    go None is =
        let next = there all turn.done (subst (λ o. IfNone o (turn.done < length all)) is inside) in
        let left = segments_left all turn.done in
        skips-same LeadsNowhere (on f.next) (on g.next) (frame_choices means all g)
        (turn-skips v ts f.turn f.next g.next (wildcard, left)
        (at ∙ ap (λ o. Some (option_map_or (λ s. selector_of s.now) o wildcard, left)) is)
        (leaves-skip v f.next g.next (segment_of next.0) (segments_left all (turn.done + 1)) left next.1 leaves)) after
    go (Some s) is =
        let stays : g.next ≡ f.next = subst (λ o. OnSome o (g.next ≡ f.next)) is others in
        skips-same LeadsNowhere (on f.next) (on f.next) (frame_choices means all g) (skips-none LeadsNowhere (on f.next))
        (ap on (sym stays) ∙ after)

-- what a frame still has to choose begins with the next candidate of its turn
pub frame-chooses : {V : Type 0} (means : V → Value) (all : List Segment) (f : Frame V) (turn : Turn) (k : code.Step × V)
    (o : Offer V) → o.reached ≡ record { done = turn.done; step = Some k.0; value = k.1 }
    → slice_get (turns (segments_left all f.reached.done)) f.turn ≡ Some (turn_of all turn)
    → slice_get (candidates (turn_selector turn) (means f.reached.value)) f.next ≡ Some (step_with means k)
    → (offered means all o).test ≡ test_of (turn_selector turn)
    → frame_choices means all f
    ≡ offered means all o ∷ frame_choices means all (record { reached = f.reached; turn = f.turn; next = f.next + 1 })
frame-chooses {V = X} means all f turn k o is there entry test =
    let t = turn_of all turn in
    let v = means f.reached.value in
    let ts = turns (segments_left all f.reached.done) in
    let rest = choices_from v (drop f.turn ts) (f.next + 1) in
    let made : Option ExprTree → Reached X → Choice = λ x p. record {
      test = x;
      left = segments_left all p.done;
      step = steps_of p.step;
      value = means p.value;
    } in
    choice_next v ts f.turn f.next t (step_with means k) there entry
    ∙ ap₂ (λ x p. made x p ∷ rest) (sym test) (sym is)

-- ---- a choice that does not pass

pub passed_over : {V : Type 0} (means : V → Value) (all : List Segment) (d : Value) (w v : Walk V) (o : Offer V) → Offers means all w o v
    → passes (offered means all o).test d (root_of (offered means all o).value) ≡ false
    → walk_reaches means all d v ≡ walk_reaches means all d w
passed_over means all d w v o gives fails =
    let n = chosen_node (choice_at (reached_at [] (walk_frames v)) (offered means all o)) in
    sym (offers-reach means all d w v o gives
    ∙ ap (λ b. (if b then reaches (offered means all o).left d n else []) ++ walk_reaches means all d v)
    (passes-anywhere (offered means all o).test d n ∙ fails))

pub offer_less : {V : Type 0} (means : V → Value) (all : List Segment) (w v : Walk V) (o : Offer V) → Offers means all w o v
    → walk_weight means all v < walk_weight means all w
offer_less means all w v o gives =
    let some = choice-weighs (choice_at (reached_at [] (walk_frames v)) (offered means all o)) in
    let less = offers-weigh means all w v o gives in
    omega arith

-- ---- a choice where no segment is left

pub ends_at : {V : Type 0} (means : V → Value) (all : List Segment) (d : Value) (w v : Walk V) (o : Offer V) → Offers means all w o v
    → passes (offered means all o).test d (root_of (offered means all o).value) ≡ true
    → length all ≤ o.reached.done
    → walk_reaches means all d w ≡ reached_node means v o.reached ∷ walk_reaches means all d v
ends_at means all d w v o gives passed past =
    let n = reached_node means v o.reached in
    offers-reach means all d w v o gives
    ∙ ap (λ b. (if b then reaches (offered means all o).left d n else []) ++ walk_reaches means all d v)
    (passes-anywhere (offered means all o).test d n ∙ passed)
    ∙ ap (λ xs. reaches (segments (map segment_of xs)) d n ++ walk_reaches means all d v)
    (drop_past all o.reached.done (slice_get_past all o.reached.done past))

-- ---- a choice to go on from

entered_pending : {V : Type 0} (means : V → Value) (all : List Segment) (v u : Walk V) (p : Reached V) → v.first ≡ None
    → u.first ≡ v.first → walk_frames u ≡ walk_frames v ++ entered p ∷ []
    → pending means all u ≡
    map (choice_at (reached_at [] (walk_frames v) ++ steps_of p.step))
    (choices_from (means p.value) (turns (segments_left all p.done)) 0) ++ pending means all v
entered_pending means all v u p begun same frames =
    let fs = walk_frames v in
    ap₂
    (λ o gs. map (choice_at (reached_at [] gs)) (map (start_choice means all) (option_to_list o))
    ++ frames_pending means all [] gs) (same ∙ begun) frames
    ∙ pending-push means all [] fs (entered p)
    ∙ ap
    (λ ts. map (choice_at (reached_at [] fs ++ steps_of p.step))
    (choices_from (means p.value) ts 0) ++ frames_pending means all [] fs)
    (drop_none (turns (segments_left all p.done)))
    ∙ ap
    (λ t. map (choice_at (reached_at [] fs ++ steps_of p.step))
    (choices_from (means p.value) (turns (segments_left all p.done)) 0) ++ t)
    (ap
    (λ o. map (choice_at (reached_at [] fs)) (map (start_choice means all) (option_to_list o))
    ++ frames_pending means all [] fs) (sym begun))

pub goes_on : {V : Type 0} (means : V → Value) (all : List Segment) (d : Value) (w v u : Walk V) (o : Offer V) → Offers means all w o v
    → v.first ≡ None → passes (offered means all o).test d (root_of (offered means all o).value) ≡ true
    → o.reached.done < length all → u.first ≡ v.first
    → walk_frames u ≡ walk_frames v ++ entered o.reached ∷ []
    → walk_reaches means all d u ≡ walk_reaches means all d w
goes_on means all d w v u o gives begun passed more same frames =
    let p = o.reached in
    let l = reached_at [] (walk_frames v) ++ steps_of p.step in
    let left = segments_left all p.done in
    let next = there all p.done more in
    let choices = map (choice_at l) (choices_from (means p.value) (turns left) 0) in
    ap (flat_map (choice_reaches d)) (entered_pending means all v u p begun same frames)
    ∙ flat_map-append (choice_reaches d) choices (pending means all v)
    ∙ ap (λ t. t ++ walk_reaches means all d v)
    (sym
    (enters (segment_of next.0) (segments_left all (p.done + 1)) left d
    (means p.value) l next.1))
    ∙ sym (offers-reach means all d w v o gives
    ∙ ap
    (λ b. (if b then reaches left d (node_at l (means p.value)) else [])
    ++ walk_reaches means all d v)
    (passes-anywhere (offered means all o).test d (node_at l (means p.value)) ∙ passed))

pub goes_on_less : {V : Type 0} (means : V → Value) (all : List Segment) (w v u : Walk V) (o : Offer V) → Offers means all w o v
    → v.first ≡ None
    → o.reached.done < length all → u.first ≡ v.first
    → walk_frames u ≡ walk_frames v ++ entered o.reached ∷ []
    → walk_weight means all u < walk_weight means all w
goes_on_less means all w v u o gives begun more same frames =
    let p = o.reached in
    let l = reached_at [] (walk_frames v) ++ steps_of p.step in
    let left = segments_left all p.done in
    let next = there all p.done more in
    let choices = map (choice_at l) (choices_from (means p.value) (turns left) 0) in
    let c = choice_at (reached_at [] (walk_frames v)) (offered means all o) in
    let after = ap (sum_by choice_weight) (entered_pending means all v u p begun same frames)
    ∙ sum_by-append choice_weight choices (pending means all v) in
    let before = offers-weigh means all w v o gives in
    let less =
    enters_less (segment_of next.0) (segments_left all (p.done + 1)) left
    (means p.value) l next.1 in
    omega arith

-- ---- a choice with nothing inside it

pub ends_in_leaf : {V : Type 0} (means : V → Value) (all : List Segment) (d : Value) (w v : Walk V) (o : Offer V)
    → Offers means all w o v
    → passes (offered means all o).test d (root_of (offered means all o).value) ≡ true
    → o.reached.done < length all
    → length (entries (means o.reached.value)) ≡ 0
    → walk_reaches means all d v ≡ walk_reaches means all d w
ends_in_leaf means all d w v o gives passed more leaf =
    let p = o.reached in
    let l = reached_at [] (walk_frames v) ++ steps_of p.step in
    let left = segments_left all p.done in
    let next = there all p.done more in
    let nothing : reaches left d (node_at l (means p.value)) ≡ [] =
    enters (segment_of next.0) (segments_left all (p.done + 1)) left d (means p.value) l next.1
    ∙ ap (λ cs. flat_map (choice_reaches d) (map (choice_at l) cs))
    (no_choices (means p.value) (turns left) (no_entries (means p.value) (omega (arith, leaf)))) in
    sym (offers-reach means all d w v o gives
    ∙ ap
    (λ b. (if b then reaches left d (node_at l (means p.value)) else [])
    ++ walk_reaches means all d v)
    (passes-anywhere (offered means all o).test d (node_at l (means p.value)) ∙ passed)
    ∙ ap (λ ns. ns ++ walk_reaches means all d v) nothing)
