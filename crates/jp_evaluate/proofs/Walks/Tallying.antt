-- The nodes of a query, place by place.
use Rattle.std.proofs.Common.{◌≡◌, ◌≢◌, ◌≤◌, ◌<◌, ◌+◌, ◌-◌, ◌*◌, ◌^◌, ℕ, zero, suc, Bool, true, false}
use Rattle.std.proofs.Common.{if◌then◌else◌, List, [], ◌∷◌, ◌++◌, Option, Some, None, get_or, length}
use Rattle.std.proofs.Common.{map, nat_lt, option_map, take, refl, ap, ap₂, sym, subst, ◌∙◌, arith}
use Rattle.std.specs.List.{All, sum_by}
use Rattle.std.proofs.lemmas.List.Elements.{All-nil}
use Rattle.std.specs.Option.{option_map_or}
use Rattle.std.proofs.lemmas.Bool.{lt-ltb}
use Rattle.std.proofs.lemmas.List.Sums.{sum_by-cons}
use Rattle.std.proofs.lemmas.Option.{same_Some}
use Rattle.jp_document.specs.Location.{child, step_of}
use Rattle.jp_document.specs.Node.{Node, root_of}
use Rattle.jp_document.specs.Value.{Value}
use Rattle.jp_document.specs.declared.location.Step as code
use Rattle.jp_select.proofs.Comparisons.Sameness.{equals_is, equals_itself}
use Rattle.jp_select.specs.Comparison.{same_value}
use Rattle.jp_tree.proofs.Views.{query_of-is}
use Rattle.jp_tree.specs.Tree.{segments}
use Rattle.jp_tree.specs.Views.{query_of, segment_of}
use Rattle.jp_tree.specs.declared.tree.Query.{Query, out-Query}
use Rattle.jp_tree.specs.declared.tree.Segment.{Segment}
use Rattle.jp_evaluate.specs.Functions.{only_value}
use Rattle.jp_evaluate.specs.Nodelist.{has_node, nodelist_at, result, start_of}
use Rattle.jp_evaluate.specs.declared.tally.Place.{Place}
use Rattle.jp_evaluate.specs.declared.tally.Tallied.{Tallied}
use Rattle.jp_evaluate.specs.declared.tally.Way.{Way}
use Rattle.jp_evaluate.specs.declared.tally.Ways.{Ways}
use Rattle.jp_evaluate.specs.Private.Tally.{AreInside, Tells, capped, children_sum, ended, first_sum, inside}
use Rattle.jp_evaluate.specs.Private.Tally.{node_sum, places_sum, reached_sum, spread_sum}
use Rattle.jp_evaluate.specs.Private.Tally.{spread_weight, way_weight, ways_sum}
use Rattle.jp_evaluate.specs.Private.Walk.{reaches, segments_left}
use Rattle.jp_evaluate.proofs.Walks.Choices.{drop_none}
use Rattle.jp_evaluate.proofs.Walks.Spreading.{Children}
use Rattle.jp_evaluate.proofs.Walks.Tallies.{node_sum-ones, ways_heavier, ways_split}
use Rattle.jp_evaluate.proofs.Walks.WaySums.{places-push, sum-more}

-- ---- the ways of a place

-- those of a value v up to the i-th after the first went over
pub record Rounds {V : Type 0} (m : V → Value) (all : List Segment) (d v : Value) (ws : Ways) (i : ℕ)
    (children : Children V) : Type 0 where
  pub stand : AreInside m v children
  pub sums : (f : Value → ℕ) → capped (children_sum (inside v (reached_sum f all d)) children)
      ≡ capped (sum_by (spread_sum f all d v) (ws.first ∷ take i ws.more.items))
  pub fewer : children_sum (inside v (way_weight all)) children
      ≤ sum_by (λ w. spread_weight all v w.done) (ws.first ∷ take i ws.more.items)

-- ways w were spread
pub record RoundMade {V : Type 0} (m : V → Value) (all : List Segment) (d v : Value) (w : Way)
    (before after : Children V) : Type 0 where
  pub stand : AreInside m v before → AreInside m v after
  pub sums : (f : Value → ℕ) → capped (children_sum (inside v (reached_sum f all d)) after)
      ≡ capped (children_sum (inside v (reached_sum f all d)) before + spread_sum f all d v w)
  pub fewer : children_sum (inside v (way_weight all)) after
      ≤ children_sum (inside v (way_weight all)) before + spread_weight all v w.done

-- nothing stands elsewhere where there is nothing
pub none_stand : {V : Type 0} (m : V → Value) (v : Value) (c : Children V) → c.entries ≡ []
    → AreInside m v c
none_stand {V = T} m v c empty =
    let P : code.Step × Place T → Type 0 = λ e. child v (step_of e.0) ≡ Some (m e.1.value) in
    subst (All P) (sym empty) (All-nil P)

take_first : {X : Type 0} (xs : List X) → take 0 xs ≡ []
take_first [] = refl
take_first (x ∷ xs) = refl

take_whole : {X : Type 0} (xs : List X) (i : ℕ) → length xs ≤ i → take i xs ≡ xs
take_whole [] zero past = refl
take_whole [] (suc i) past = refl
take_whole (x ∷ xs) zero past = absurd (omega arith)
take_whole (x ∷ xs) (suc i) past = ap (λ ys. x ∷ ys) (take_whole xs i (omega arith))

pub rounds-first : {V : Type 0} (m : V → Value) (all : List Segment) (d v : Value) (ws : Ways) (before after : Children V)
    → before.entries ≡ [] → RoundMade m all d v ws.first before after → Rounds m all d v ws 0 after
rounds-first m all d v ws before after empty made = record {
  stand = made.stand (none_stand m v before empty);
  sums = λ f.
      let was = ap (sum_by (λ e. ways_sum (inside v (reached_sum f all d) (step_of e.0)) e.1.ways)) empty in
      let one = sum_by-cons (spread_sum f all d v) ws.first [] in
      let all_first = ap (λ xs. sum_by (spread_sum f all d v) (ws.first ∷ xs)) (take_first ws.more.items) in
      let is = made.sums f in
      omega arith;
  fewer =
      let was = ap (sum_by (λ e. ways_sum (inside v (way_weight all) (step_of e.0)) e.1.ways)) empty in
      let one = sum_by-cons (λ (w : Way). spread_weight all v w.done) ws.first [] in
      let all_first = ap (λ xs. sum_by (λ (w : Way). spread_weight all v w.done) (ws.first ∷ xs)) (take_first ws.more.items) in
      let is = made.fewer in
      omega arith;
}

pub rounds-more : {V : Type 0} (m : V → Value) (all : List Segment) (d v : Value) (ws : Ways) (xs : List Way) (i : ℕ) (w : Way)
    (before after : Children V) → xs ≡ ws.more.items → Rounds m all d v ws i before → i < length xs
    → RoundMade m all d v (get_or xs i w) before after → Rounds m all d v ws (i + 1) after
rounds-more m all d v ws xs i w before after are so_far inside_xs made = record {
  stand = made.stand so_far.stand;
  sums = λ f.
      let h = spread_sum f all d v in
      let within : i < length ws.more.items = omega (arith, ap length are) in
      let more = sum-more h ws.more.items i w within in
      let one = sum_by-cons h ws.first (take i ws.more.items) in
      let next = sum_by-cons h ws.first (take (i + 1) ws.more.items) in
      let here = ap (λ ys. h (get_or ys i w)) are in
      let was = so_far.sums f in
      let is = made.sums f in
      omega arith;
  fewer =
      let h : Way → ℕ = λ x. spread_weight all v x.done in
      let within : i < length ws.more.items = omega (arith, ap length are) in
      let more = sum-more h ws.more.items i w within in
      let one = sum_by-cons h ws.first (take i ws.more.items) in
      let next = sum_by-cons h ws.first (take (i + 1) ws.more.items) in
      let here = ap (λ ys. h (get_or ys i w)) are in
      let was = so_far.fewer in
      let is = made.fewer in
      omega arith;
}

pub rounds-sums : {V : Type 0} (m : V → Value) (all : List Segment) (d v : Value) (ws : Ways) (xs : List Way) (i : ℕ)
    (children : Children V) → xs ≡ ws.more.items → Rounds m all d v ws i children → length xs ≤ i
    → (f : Value → ℕ)
    → capped (children_sum (inside v (reached_sum f all d)) children)
    ≡ capped (ways_sum (spread_sum f all d v) ws)
rounds-sums m all d v ws xs i children are so_far past f =
    so_far.sums f
    ∙ ap (λ ys. capped (sum_by (spread_sum f all d v) (ws.first ∷ ys)))
    (take_whole ws.more.items i (omega (arith, ap length are)))

pub rounds-fewer : {V : Type 0} (m : V → Value) (all : List Segment) (d v : Value) (ws : Ways) (xs : List Way) (i : ℕ)
    (children : Children V) → xs ≡ ws.more.items → Rounds m all d v ws i children → length xs ≤ i
    → children_sum (inside v (way_weight all)) children ≤ ways_sum (λ w. spread_weight all v w.done) ws
rounds-fewer m all d v ws xs i children are so_far past =
    let whole = ap (λ ys. sum_by (λ (w : Way). spread_weight all v w.done) (ws.first ∷ ys))
    (take_whole ws.more.items i (omega (arith, ap length are))) in
    let was = so_far.fewer in
    omega arith

-- ---- place by place

-- the nodes that were counted and those to which the places lead are all
pub record Tallies {V : Type 0} (m : V → Value) (all : List Segment) (d : Value) (ns : List Node)
    (t : Tallied V) (ps : List (Place V)) : Type 0 where
  pub counts : capped (t.count + places_sum m (reached_sum (λ v. 1) all d) ps) ≡ capped (length ns)
  pub single : (f : Value → ℕ) → t.count ≤ 1
      → capped (first_sum m f t + places_sum m (reached_sum f all d) ps) ≡ capped (node_sum f ns)

one_time : (n : ℕ) → 1 * n ≡ n
one_time n = omega arith

pub tallies-begun : {V : Type 0} (m : V → Value) (all : List Segment) (d : Value) (start : V)
    (t : Tallied V) (ps : List (Place V)) → t.count ≡ 0
    → ((h : Value → Way → ℕ) → places_sum m h ps ≡ h (m start) (record { done = 0; count = 1 }))
    → Tallies m all d (reaches (segments_left all 0) d (root_of (m start))) t ps
tallies-begun m all d start t ps none begun =
    let ns = reaches (segments_left all 0) d (root_of (m start)) in
    record {
      counts =
          let all_ones = begun (reached_sum (λ v. 1) all d) ∙ one_time (node_sum (λ v. 1) ns) ∙ node_sum-ones ns in
          omega arith;
      single = λ f few.
          let all_sum = begun (reached_sum f all d) ∙ one_time (node_sum f ns) in
          let nothing : first_sum m f t ≡ 0 = ap (λ n. n * option_map_or (λ v. f (m v)) t.first 0) none ∙ no_times (option_map_or (λ v. f (m v)) t.first 0) in
          omega arith;
    }
  where
    no_times : (n : ℕ) → 0 * n ≡ 0
    no_times n = omega arith

-- a place is counted
pub record PlaceCounted {V : Type 0} (m : V → Value) (all : List Segment) (p : Place V)
    (t u : Tallied V) (here : ℕ) : Type 0 where
  pub ended : (n : ℕ) → capped (here * n) ≡ capped (ways_sum (λ w. ended (length all) w * n) p.ways)
  pub count : u.count ≡ capped (t.count + here)
  pub first : (f : Value → ℕ) → u.count ≤ 1 → first_sum m f u ≡ first_sum m f t + here * f (m p.value)

times_one : (n : ℕ) → n * 1 ≡ n
times_one n = omega arith

-- and what is inside it takes its place
pub tallies-more : {V : Type 0} (m : V → Value) (all : List Segment) (d : Value) (ns : List Node)
    (t u : Tallied V) (ps qs rs : List (Place V)) (p : Place V) (here : ℕ) (children : Children V)
    → Tallies m all d ns t ps → ps ≡ qs ++ p ∷ [] → PlaceCounted m all p t u here
    → ((f : Value → ℕ) → capped (children_sum (inside (m p.value) (reached_sum f all d)) children)
    ≡ capped (ways_sum (spread_sum f all d (m p.value)) p.ways))
    → ((h : Value → Way → ℕ) → places_sum m h rs ≡ places_sum m h qs + children_sum (inside (m p.value) h) children)
    → Tallies m all d ns u rs
tallies-more m all d ns t u ps qs rs p here children so_far popped counted spreads pushed = record {
  counts =
      let f : Value → ℕ = λ v. 1 in
      let was = so_far.counts in
      let place = places-push m (reached_sum f all d) qs ps p popped in
      let split = ways_split f all d (m p.value) p.ways in
      let at = counted.ended 1 in
      let at_one = times_one here in
      let inner = spreads f in
      let after = pushed (reached_sum f all d) in
      let is = counted.count in
      omega arith;
  single = λ f few.
      let is = counted.count in
      let before : t.count ≤ 1 = omega arith in
      let was = so_far.single f before in
      let place = places-push m (reached_sum f all d) qs ps p popped in
      let split = ways_split f all d (m p.value) p.ways in
      let at = counted.ended (f (m p.value)) in
      let inner = spreads f in
      let after = pushed (reached_sum f all d) in
      let first = counted.first f few in
      omega arith;
}

-- fewer choices are left then
pub tallies-less : {V : Type 0} (m : V → Value) (all : List Segment) (ps qs rs : List (Place V))
    (p : Place V) (children : Children V) → ps ≡ qs ++ p ∷ []
    → children_sum (inside (m p.value) (way_weight all)) children
    ≤ ways_sum (λ w. spread_weight all (m p.value) w.done) p.ways
    → ((h : Value → Way → ℕ) → places_sum m h rs ≡ places_sum m h qs + children_sum (inside (m p.value) h) children)
    → places_sum m (way_weight all) rs < places_sum m (way_weight all) ps
tallies-less m all ps qs rs p children popped fewer pushed =
    let place = places-push m (way_weight all) qs ps p popped in
    let after = pushed (way_weight all) in
    let heavy = ways_heavier all (m p.value) p.ways in
    omega arith

-- ---- what is told at the end

none_there : {X : Type 0} (xs : List X) → length xs ≡ 0 → xs ≡ []
none_there [] none = refl
none_there (x ∷ xs) none = absurd (omega arith)

-- where more were counted than are asked for
pub tells-more : {V : Type 0} (m : V → Value) (all : List Segment) (d : Value) (ns : List Node)
    (most : ℕ) (t u : Tallied V) (ps qs : List (Place V)) (p : Place V) (here : ℕ)
    → Tallies m all d ns t ps → ps ≡ qs ++ p ∷ [] → PlaceCounted m all p t u here
    → most < u.count → Tells most u.count (length ns)
tells-more m all d ns most t u ps qs p here so_far popped counted more =
    let f : Value → ℕ = λ v. 1 in
    let was = so_far.counts in
    let place = places-push m (reached_sum f all d) qs ps p popped in
    let split = ways_split f all d (m p.value) p.ways in
    let at = counted.ended 1 in
    let at_one = times_one here in
    let is = counted.count in
    record {
      all = λ few. absurd (omega arith);
      more = λ _. omega arith;
    }

pub tells-all : {V : Type 0} (m : V → Value) (all : List Segment) (d : Value) (ns : List Node)
    (most : ℕ) (t : Tallied V) (ps : List (Place V)) → Tallies m all d ns t ps → length ps ≡ 0
    → t.count ≤ most → Tells most t.count (length ns)
tells-all m all d ns most t ps so_far none few =
    let was = so_far.counts in
    let nothing = ap (places_sum m (reached_sum (λ v. 1) all d)) (none_there ps none) in
    record { all = λ _. omega arith; more = λ many. absurd (omega arith) }

pub tells-first : {V : Type 0} (m : V → Value) (all : List Segment) (d : Value) (ns : List Node)
    (t : Tallied V) (ps : List (Place V)) → Tallies m all d ns t ps → length ps ≡ 0
    → t.count ≤ 1 → (f : Value → ℕ) → capped (first_sum m f t) ≡ capped (node_sum f ns)
tells-first m all d ns t ps so_far none few f =
    let was = so_far.single f few in
    let nothing = ap (places_sum m (reached_sum f all d)) (none_there ps none) in
    omega arith

-- ---- what a query asks

-- from where a query begins its segments reach its nodelist
pub all_reached : {V : Type 0} (m : V → Value) (q : Query) (all : List Segment) (d : Value) (c : Node)
    (v : V) → (out-Query q).segments.items ≡ all
    → root_of (m v) ≡ start_of (out-Query q).absolute d c
    → reaches (segments_left all 0) d (root_of (m v)) ≡ nodelist_at (query_of q) d c
all_reached m q all d c v are starts =
    ap (λ xs. reaches (segments (map segment_of xs)) d (root_of (m v))) (drop_none all)
    ∙ ap₂ (λ xs n. result (segments (map segment_of xs)) d (n ∷ [])) (sym are) starts
    ∙ sym (ap (λ t. nodelist_at t d c) (query_of-is q))

pub some-told : (n : ℕ) (ns : List Node) → Tells 0 n (length ns) → nat_lt 0 n ≡ has_node ns
some-told zero [] told = refl
some-told (suc n) [] told = absurd (let many = told.more (omega arith) in omega arith)
some-told zero (x ∷ ns) told = absurd (let same = told.all (omega arith) in omega arith)
some-told (suc n) (x ∷ ns) told = lt-ltb 0 (suc n) (omega arith)

pub count-told : (n : ℕ) (ns : List Node) → Tells (2 ^ 64 - 1) n (length ns) → n < 2 ^ 64 - 1
    → n ≡ length ns
count-told n ns told small = let same = told.all (omega arith) in omega arith

-- where there are several, or none
pub other-told : (n : ℕ) (ns : List Node) → Tells 1 n (length ns) → n ≢ 1 → None ≡ only_value ns
other-told n [] told apart = refl
other-told n (x ∷ y ∷ ns) told apart = refl
other-told n (x ∷ []) told apart = absurd (several n told apart)
  where
    several : (k : ℕ) → Tells 1 k 1 → k ≢ 1 → ⊥
    several zero is other = let same = is.all (omega arith) in omega arith
    several (suc zero) is other = other refl
    several (suc (suc k)) is other = let many = is.more (omega arith) in omega arith

abbrev one_if : Bool → ℕ
one_if b = if b then 1 else 0

abbrev is_value : Value → Value → ℕ
is_value v w = one_if (same_value v w)

same_node : (v w : Value) → capped (1 * is_value v v) ≡ capped (is_value v w) → v ≡ w
same_node v w told = decided (same_value v w) refl
  where
    itself : is_value v v ≡ 1
    itself = ap one_if (equals_itself (Some v))

    decided : (b : Bool) → same_value v w ≡ b → v ≡ w
    decided true is = same_Some v w (equals_is (Some v) (Some w) is)
    decided false is =
        absurd (let apart : is_value v w ≡ 0 = ap one_if is in let one = itself in omega arith)

-- where there is one
pub one-told : {V : Type 0} (m : V → Value) (t : Tallied V) (ns : List Node)
    → Tells 1 t.count (length ns)
    → ((f : Value → ℕ) → capped (first_sum m f t) ≡ capped (node_sum f ns)) → t.count ≡ 1
    → option_map m t.first ≡ only_value ns
one-told m t [] told first one = absurd (let same = told.all (omega arith) in omega arith)
one-told m t (x ∷ y ∷ ns) told first one = absurd (let same = told.all (omega arith) in omega arith)
one-told m t (x ∷ []) told first one = decided t.first refl
  where
    node : (f : Value → ℕ) → node_sum f (x ∷ []) ≡ f x.value
    node f = let here = sum_by-cons (λ (n : Node). f n.value) x [] in omega arith

    counted : (f : Value → ℕ) → capped (1 * option_map_or (λ v. f (m v)) t.first 0) ≡ capped (f x.value)
    counted f =
        ap (λ n. capped (n * option_map_or (λ v. f (m v)) t.first 0)) (sym one)
        ∙ first f ∙ ap capped (node f)

    decided : (o : Option _) → t.first ≡ o → option_map m o ≡ Some x.value
    decided None is =
        absurd (let told_one = counted (λ v. 1) in
        let nothing = ap (λ o. 1 * option_map_or (λ v. 1) o 0) is in omega arith)
    decided (Some v) is =
        ap Some (same_node (m v) x.value
        (sym (ap (λ o. capped (1 * option_map_or (λ u. is_value (m v) (m u)) o 0)) is)
        ∙ counted (is_value (m v))))
