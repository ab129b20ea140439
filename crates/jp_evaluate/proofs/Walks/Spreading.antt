-- The ways that go on from a value, choice by choice.
use Rattle.std.proofs.Common.{◌≡◌, ◌≤◌, ◌+◌, ◌*◌, ℕ, Bool, true, false, if◌then◌else◌, List, [], ◌∷◌}
use Rattle.std.proofs.Common.{Option, Some, None, drop, refl, ap, ap₂, sym, subst, ◌∙◌, arith}
use Rattle.std.specs.List.{All, sum_by}
use Rattle.std.specs.Option.{IfSome, option_map_or}
use Rattle.std.specs.BTreeMap.{BTreeMap}
use Rattle.std.proofs.lemmas.List.Elements.{All-head}
use Rattle.std.proofs.lemmas.List.Sums.{sum_by-cons}
use Rattle.jp_document.specs.Location.{Step, child, step_of}
use Rattle.jp_document.specs.Node.{Node, root_of}
use Rattle.jp_document.specs.Value.{IsDocumentValue, Value}
use Rattle.jp_document.specs.declared.location.Step as code
use Rattle.jp_tree.specs.declared.tree.Segment.{Segment}
use Rattle.jp_evaluate.specs.declared.tally.Place.{Place}
use Rattle.jp_evaluate.specs.declared.tally.Way.{Way}
use Rattle.jp_evaluate.specs.declared.walk.Frame.{Frame}
use Rattle.jp_evaluate.specs.declared.walk.Offer.{Offer}
use Rattle.jp_evaluate.specs.declared.walk.Reached.{Reached}
use Rattle.jp_evaluate.specs.Private.Tally.{AreByDone, AreInside, ByStep, CountsEach, capped}
use Rattle.jp_evaluate.specs.Private.Tally.{children_sum}
use Rattle.jp_evaluate.specs.Private.Tally.{choice_sum, inside, node_sum, reached_sum, spread_sum}
use Rattle.jp_evaluate.specs.Private.Tally.{spread_weight, way_weight}
use Rattle.jp_evaluate.specs.Private.Walk.{Choice, LeadsNowhere, Skips, choices_from, frame_choices, offered, passes, reaches}
use Rattle.jp_evaluate.specs.Private.Walk.{segments_left, steps_of, turns, weight}
use Rattle.jp_evaluate.proofs.Walks.Advances.{idle-nothing}
use Rattle.jp_evaluate.proofs.Walks.Choices.{drop_none}
use Rattle.jp_evaluate.proofs.Walks.Skipping.{skips-all, skips-less, skips-sum}
use Rattle.jp_evaluate.proofs.Walks.Tallies.{IsInside, choices-inside}

abbrev pub Children : Type 0 → Type 0
Children V = BTreeMap code.Step (Place V)

-- what choices weigh
abbrev pub weigh : List Choice → ℕ
weigh cs = sum_by (λ c. weight c.left c.value) cs

-- the choices of a frame at `start` up to this one went over from `before` to `after`
pub record Spreads {V : Type 0} (m : V → Value) (all : List Segment) (d : Value) (start : V) (way : Way)
    (before : Children V) (frame : Frame V) (after : Children V) : Type 0 where
  pub value : frame.reached.value ≡ start
  pub stand : AreInside m (m start) before → AreInside m (m start) after
  pub sums : (f : Value → ℕ)
      → capped (children_sum (inside (m start) (reached_sum f all d)) after
      + way.count * sum_by (choice_sum f d) (frame_choices m all frame))
      ≡ capped (children_sum (inside (m start) (reached_sum f all d)) before
      + spread_sum f all d (m start) way)
  pub fewer : children_sum (inside (m start) (way_weight all)) after + weigh (frame_choices m all frame)
      ≤ children_sum (inside (m start) (way_weight all)) before + spread_weight all (m start) way.done

-- ---- what is summed by steps

counted_inside : (F : Value → ℕ) (o : Option Value) (n : ℕ)
    → option_map_or (λ u. n * F u) o 0 ≡ n * option_map_or F o 0
counted_inside F None n = omega arith
counted_inside F (Some u) n = refl

pub counts-inside : (f : Value → ℕ) (all : List Segment) (d v : Value)
    → CountsEach (inside v (reached_sum f all d))
counts-inside f all d v k = (
  (λ n. option_map_or (λ u. node_sum f (reaches (segments_left all n) d (root_of u))) (child v k) 0),
  λ w. counted_inside (λ u. node_sum f (reaches (segments_left all w.done) d (root_of u))) (child v k) w.count,
)

pub weighs-inside : (all : List Segment) (v : Value) → AreByDone (inside v (way_weight all))
weighs-inside all v k w x same =
    ap (λ n. option_map_or (λ u. weight (segments_left all n) u) (child v k) 0) same

times-plus : (n a b : ℕ) → n * (a + b) ≡ n * a + n * b
times-plus n a b = omega arith

times-none : (n : ℕ) → n * 0 ≡ 0
times-none n = omega arith

-- ---- where a choice arrives

one_of : (s k : Step) → s ∷ [] ≡ k ∷ [] → s ≡ k
one_of s k same = cc

pub arrives : (v u : Value) (h : Value → Way → ℕ) (w : Way) (o : Option code.Step) (c : Choice)
    → IsInside v c → c.step ≡ steps_of o → c.value ≡ u
    → option_map_or (λ s. inside v h (step_of s) w) o 0 ≡ h u w
arrives v u h w None c stands step is = absurd (let never = sym (stands.1) ∙ step in cc)
arrives v u h w (Some s) c stands step is =
    let same : step_of s ≡ stands.0 = one_of (step_of s) stands.0 (sym step ∙ stands.1) in
    ap (λ x. option_map_or (λ y. h y w) x 0) (ap (child v) same ∙ stands.2 ∙ ap Some is)

pub stays : (v u : Value) (o : Option code.Step) (c : Choice) → IsInside v c → c.step ≡ steps_of o
    → c.value ≡ u → IfSome o (λ s. child v (step_of s) ≡ Some u)
stays v u None c stands step is = tt
stays v u (Some s) c stands step is =
    let same : step_of s ≡ stands.0 = one_of (step_of s) stands.0 (sym step ∙ stands.1) in
    ap (child v) same ∙ stands.2 ∙ ap Some is

-- ---- from choice to choice

-- a choice with nothing inside it adds nothing
idle-sum : (f : Value → ℕ) (d : Value) (c : Choice) → LeadsNowhere c → choice_sum f d c ≡ 0
idle-sum f d c idle =
    either (passes c.test d (root_of c.value)) (reaches c.left d (root_of c.value)) (idle-nothing d [] c idle)
  where
    either : (b : Bool) (ns : List Node) → ns ≡ [] → (if b then node_sum f ns else 0) ≡ 0
    either true ns none = ap (node_sum f) none
    either false ns none = refl

pub spread-begun : {V : Type 0} (m : V → Value) (all : List Segment) (d : Value) (start : V) (way : Way)
    (before : Children V) (frame : Frame V) → frame.reached.value ≡ start → frame.reached.done ≡ way.done
    → frame.turn ≡ 0 → frame.next ≡ 0 → Spreads m all d start way before frame before
spread-begun {V = T} m all d start way before frame value done turn next =
    let same : frame_choices m all frame ≡ choices_from (m start) (turns (segments_left all way.done)) 0 =
    ap₂ (λ (t n : ℕ). choices_from (m frame.reached.value) (drop t (turns (segments_left all frame.reached.done))) n) turn next
    ∙ ap (λ ts. choices_from (m frame.reached.value) ts 0) (drop_none (turns (segments_left all frame.reached.done)))
    ∙ ap₂ (λ (x : T) n. choices_from (m x) (turns (segments_left all n)) 0) value done in
    record {
      value = value;
      stand = λ all_stand. all_stand;
      sums = λ f. ap (λ cs. capped (children_sum (inside (m start) (reached_sum f all d)) before
          + way.count * sum_by (choice_sum f d) cs)) same;
      fewer = let light = ap weigh same in omega arith;
    }

module _ {V : Type 0} (m : V → Value) (all : List Segment) (d : Value) (start : V) (way : Way)
    (before after : Children V) (frame next : Frame V) (o : Offer V)
    (so_far : Spreads m all d start way before frame after)
    (reached : next.reached ≡ frame.reached)
    (gives : Skips LeadsNowhere (frame_choices m all frame) (offered m all o ∷ frame_choices m all next)) where
  sum-next : (f : Value → ℕ) → sum_by (choice_sum f d) (frame_choices m all frame)
      ≡ choice_sum f d (offered m all o) + sum_by (choice_sum f d) (frame_choices m all next)
  sum-next f =
      skips-sum LeadsNowhere (choice_sum f d) (frame_choices m all frame) (offered m all o ∷ frame_choices m all next)
      (idle-sum f d) gives
      ∙ sum_by-cons (choice_sum f d) (offered m all o) (frame_choices m all next)

  weigh-next : weight (segments_left all o.reached.done) (m o.reached.value) + weigh (frame_choices m all next)
      ≤ weigh (frame_choices m all frame)
  weigh-next =
      let less =
      skips-less LeadsNowhere (λ (c : Choice). weight c.left c.value) (frame_choices m all frame)
      (offered m all o ∷ frame_choices m all next) gives in
      let sum = sum_by-cons (λ (c : Choice). weight c.left c.value) (offered m all o) (frame_choices m all next) in
      omega arith

  value-next : next.reached.value ≡ start
  value-next = ap (λ (r : Reached V). r.value) reached ∙ so_far.value

  pub spread-failed : passes (offered m all o).test d (root_of (offered m all o).value) ≡ false
      → Spreads m all d start way before next after
  spread-failed fails = record {
    value = value-next;
    stand = so_far.stand;
    sums = λ f.
        let none : choice_sum f d (offered m all o) ≡ 0 =
        ap (λ b. if b then node_sum f (reaches (segments_left all o.reached.done) d (root_of (m o.reached.value))) else 0) fails in
        let more = sum-next f in
        let same : way.count * sum_by (choice_sum f d) (frame_choices m all frame)
        ≡ way.count * sum_by (choice_sum f d) (frame_choices m all next) =
        ap (λ n. way.count * n) (omega arith) in
        ap (λ n. capped (children_sum (inside (m start) (reached_sum f all d)) after + n)) (sym same)
        ∙ so_far.sums f;
    fewer = let more = weigh-next in let was = so_far.fewer in omega arith;
  }

  stands : IsDocumentValue (m start) → IsInside (m start) (offered m all o)
  stands document =
      All-head (IsInside (m start)) (offered m all o) (frame_choices m all next)
      (skips-all LeadsNowhere (IsInside (m start)) (frame_choices m all frame) (offered m all o ∷ frame_choices m all next) gives
      (subst (λ (x : V). All (IsInside (m start))
      (choices_from (m x) (drop frame.turn (turns (segments_left all frame.reached.done))) frame.next))
      (sym so_far.value)
      (choices-inside (m start) (drop frame.turn (turns (segments_left all frame.reached.done))) frame.next document)))

  pub spread-passed : (new : Children V) → IsDocumentValue (m start)
      → passes (offered m all o).test d (root_of (offered m all o).value) ≡ true
      → ((v : Value) → IfSome o.reached.step (λ s. child v (step_of s) ≡ Some (m o.reached.value))
      → AreInside m v after → AreInside m v new)
      → ((h : ByStep) → CountsEach h → capped (children_sum h new)
      ≡ capped (children_sum h after + option_map_or (λ s. h (step_of s) (record { done = o.reached.done; count = way.count })) o.reached.step 0))
      → ((h : ByStep) → AreByDone h → children_sum h new
      ≤ children_sum h after + option_map_or (λ s. h (step_of s) (record { done = o.reached.done; count = way.count })) o.reached.step 0)
      → Spreads m all d start way before next new
  spread-passed new document passed puts adds weighs = record {
    value = value-next;
    stand = λ all_stand. puts (m start) (stays (m start) (m o.reached.value) o.reached.step (offered m all o) (stands document) refl refl) (so_far.stand all_stand);
    sums = λ f.
        let v = m start in
        let w : Way = record { done = o.reached.done; count = way.count } in
        let h = reached_sum f all d in
        let there : choice_sum f d (offered m all o)
        ≡ node_sum f (reaches (segments_left all o.reached.done) d (root_of (m o.reached.value))) =
        ap (λ b. if b then node_sum f (reaches (segments_left all o.reached.done) d (root_of (m o.reached.value))) else 0) passed in
        let added = adds (inside v h) (counts-inside f all d v) in
        let arrived = arrives v (m o.reached.value) h w o.reached.step (offered m all o) (stands document) refl refl in
        let more = ap (λ n. way.count * n) (sum-next f) in
        let apart = times-plus way.count (choice_sum f d (offered m all o)) (sum_by (choice_sum f d) (frame_choices m all next)) in
        let same = ap (λ n. way.count * n) there in
        let was = so_far.sums f in
        omega arith;
    fewer =
        let v = m start in
        let w : Way = record { done = o.reached.done; count = way.count } in
        let added = weighs (inside v (way_weight all)) (weighs-inside all v) in
        let arrived = arrives v (m o.reached.value) (way_weight all) w o.reached.step (offered m all o) (stands document) refl refl in
        let more = weigh-next in
        let was = so_far.fewer in
        omega arith;
  }

-- at the end all went over
pub spread-sums : {V : Type 0} (m : V → Value) (all : List Segment) (d : Value) (start : V) (way : Way)
    (before after : Children V) (frame : Frame V) → Spreads m all d start way before frame after
    → Skips LeadsNowhere (frame_choices m all frame) [] → (f : Value → ℕ)
    → capped (children_sum (inside (m start) (reached_sum f all d)) after)
    ≡ capped (children_sum (inside (m start) (reached_sum f all d)) before + spread_sum f all d (m start) way)
spread-sums m all d start way before after frame so_far none f =
    let nothing : way.count * sum_by (choice_sum f d) (frame_choices m all frame) ≡ 0 =
    ap (λ n. way.count * n) (skips-sum LeadsNowhere (choice_sum f d) (frame_choices m all frame) [] (idle-sum f d) none)
    ∙ times-none way.count in
    let was = so_far.sums f in
    omega arith

pub spread-fewer : {V : Type 0} (m : V → Value) (all : List Segment) (d : Value) (start : V) (way : Way)
    (before after : Children V) (frame : Frame V) → Spreads m all d start way before frame after
    → children_sum (inside (m start) (way_weight all)) after
    ≤ children_sum (inside (m start) (way_weight all)) before + spread_weight all (m start) way.done
spread-fewer m all d start way before after frame so_far = let was = so_far.fewer in omega arith
