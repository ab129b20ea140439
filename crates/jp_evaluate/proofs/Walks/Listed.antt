-- A child that the last segment chooses without a test: the node that comes first.
use Rattle.std.proofs.Common.{◌≡◌, suc, ◌+◌, ◌≤◌, List, [], ◌∷◌, ◌++◌, Option, Some, None, length, map, option_map}
use Rattle.std.proofs.Common.{if◌then◌else◌, refl, sym, ap, ◌∙◌, arith}
use Rattle.std.specs.List.{slice_get, sum_by}
use Rattle.std.proofs.lemmas.List.Sums.{sum_by-cons}
use Rattle.std.proofs.lemmas.Option.{same_Some, slice_get_past}
use Rattle.jp_document.specs.Location.{Step}
use Rattle.jp_document.specs.Node.{node_at, root_of}
use Rattle.jp_document.specs.Value.{Value}
use Rattle.jp_tree.specs.Tree.{segments}
use Rattle.jp_tree.specs.Views.{segment_of}
use Rattle.jp_tree.specs.declared.tree.Segment.{Segment}
use Rattle.jp_lent.specs.Lending.{entry_value}
use Rattle.jp_select.proofs.Walks.{drop_past}
use Rattle.jp_select.specs.Selectors.{candidates}
use Rattle.jp_evaluate.specs.Cost.{cost}
use Rattle.jp_evaluate.specs.Private.Due.{choice_cost, walk_cost}
use Rattle.jp_evaluate.specs.Private.Walk.{GivesChild, LeadsNowhere, LeadsNowhereAt, Skips, choice_at, choice_of, chosen_node}
use Rattle.jp_evaluate.specs.Private.Walk.{frame_choices, passes, pending, reached_at, reaches, segments_left, test_of}
use Rattle.jp_evaluate.specs.Private.Walk.{turn_of, turn_selector, turns, walk_frames, walk_reaches}
use Rattle.jp_evaluate.specs.declared.walk.Frame.{Frame}
use Rattle.jp_evaluate.specs.declared.walk.Turn.{Turn}
use Rattle.jp_evaluate.specs.declared.walk.Walk.{Walk}
use Rattle.jp_evaluate.proofs.Walks.Advances.{skipped-reach}
use Rattle.jp_evaluate.proofs.Walks.Choices.{choice_next, frame_next}
use Rattle.jp_evaluate.proofs.Walks.Costs.{ended-cost, top-cost}
use Rattle.jp_evaluate.proofs.Walks.Skipping.{skips-none, skips-same}

abbrev pub past-choice : {V : Type 0} → Frame V → Frame V
past-choice f = record { reached = f.reached; turn = f.turn; next = f.next + 1 }

-- the walk behind the next choice of its last frame
abbrev pub behind-choice : {V : Type 0} → Walk V → Frame V → Walk V
behind-choice w f = record { first = w.first; top = Some (past-choice f); below = w.below; kept = w.kept }

entry-taken : (o : Option (Step × Value)) (y : Value) → Some y ≡ option_map entry_value o
    → (e : Step × Value) × ((o ≡ Some e) × (e.1 ≡ y))
entry-taken None y is = absurd (cc)
entry-taken (Some e) y is = (e, (refl, same_Some e.1 y (sym is)))

pub child-first : {V : Type 0} (means : V → Value) (all : List Segment) (w : Walk V) (f : Frame V) (turn : Turn) (x : V)
    → w.first ≡ None → w.top ≡ Some f
    → slice_get (turns (segments_left all f.reached.done)) f.turn ≡ Some (turn_of all turn)
    → length all ≤ turn.done → test_of (turn_selector turn) ≡ None
    → Some (means x) ≡ option_map entry_value (slice_get (candidates (turn_selector turn) (means f.reached.value)) f.next)
    → GivesChild means all w x (behind-choice w f)
child-first means all w f turn x first top at past untested is =
    let v = behind-choice w f in
    let t = turn_of all turn in
    let within = means f.reached.value in
    let before = pending means all w in
    let taken = entry-taken (slice_get (candidates t.0 within) f.next) (means x) is in
    let e = taken.0 in
    let c = choice_of t e in
    let l = reached_at [] (walk_frames v) in
    let mine = frame_choices means all f in
    let offers : Skips LeadsNowhereAt before (choice_at l c ∷ pending means all v) =
    frame_next means all before w v f first first (skips-none LeadsNowhereAt before) top (past-choice f) c refl refl refl
    (skips-same LeadsNowhere mine mine (c ∷ frame_choices means all (past-choice f)) (skips-none LeadsNowhere mine)
    (choice_next within (turns (segments_left all f.reached.done)) f.turn f.next t e at taken.1.0)) in
    record {
      place = l ++ e.0 ∷ [];
      first = λ d.
          let n = chosen_node (choice_at l c) in
          skipped-reach d before (choice_at l c ∷ pending means all v) offers
          ∙ ap (λ o. (if passes o d n then reaches t.1 d n else []) ++ walk_reaches means all d v) untested
          ∙ ap (λ xs. reaches (segments (map segment_of xs)) d n ++ walk_reaches means all d v)
          (drop_past all turn.done (slice_get_past all turn.done past))
          ∙ ap (λ y. node_at (l ++ e.0 ∷ []) y ∷ walk_reaches means all d v) taken.1.1;
    }

-- one step is what it takes
pub child-cost : {V : Type 0} (means : V → Value) (all : List Segment) (w : Walk V) (f : Frame V) (turn : Turn) (x : V)
    → w.first ≡ None → w.top ≡ Some f
    → slice_get (turns (segments_left all f.reached.done)) f.turn ≡ Some (turn_of all turn)
    → length all ≤ turn.done → test_of (turn_selector turn) ≡ None
    → Some (means x) ≡ option_map entry_value (slice_get (candidates (turn_selector turn) (means f.reached.value)) f.next)
    → (d : Value) → walk_cost means all d w ≡ suc (walk_cost means all d (behind-choice w f))
child-cost means all w f turn x first top at past untested is = λ d.
    let within = means f.reached.value in
    let t = turn_of all turn in
    let taken = entry-taken (slice_get (candidates t.0 within) f.next) (means x) is in
    let e = taken.0 in
    let rest = frame_choices means all (past-choice f) in
    let one : choice_cost d (choice_of t e) ≡ 1 =
    ap (λ o. if passes o d (root_of e.1) then cost t.1 d e.1 else 1) untested
    ∙ ended-cost all turn.done d e.1 past in
    let sum = ap (sum_by (choice_cost d))
    (choice_next within (turns (segments_left all f.reached.done)) f.turn f.next t e at taken.1.0)
    ∙ sum_by-cons (choice_cost d) (choice_of t e) rest in
    let before = top-cost means all d w f first top in
    let after = top-cost means all d (behind-choice w f) (past-choice f) first refl in
    omega arith
