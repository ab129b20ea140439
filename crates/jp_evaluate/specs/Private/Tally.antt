-- How many nodes segments reach, told by the values that they lead to and by how many ways; m says
-- what a value that is lent stands for.
use Rattle.std.specs.Prelude.{◌≡◌, ◌≤◌, ◌<◌, ◌-◌, ◌*◌, ◌^◌, ℕ, min, nat_le, if◌then◌else◌}
use Rattle.std.specs.Prelude.{All, List, ◌∷◌, ◌+◌, Some, length, sum_by}
use Rattle.std.specs.BTreeMap.{BTreeMap}
use Rattle.std.specs.Option.{option_map_or}
use Rattle.jp_document.specs.Location.{Step, child, step_of}
use Rattle.jp_document.specs.Node.{Node, root_of}
use Rattle.jp_document.specs.Value.{Value}
use Rattle.jp_document.specs.declared.location.Step as code
use Rattle.jp_tree.specs.declared.tree.Segment.{Segment}
use Rattle.jp_evaluate.specs.Cost.{entering_cost}
use Rattle.jp_evaluate.specs.Private.Walk.{Choice, choices_from, passes, reaches, segments_left}
use Rattle.jp_evaluate.specs.Private.Walk.{turns, weight}
use Rattle.jp_evaluate.specs.declared.tally.Place.{Place}
use Rattle.jp_evaluate.specs.declared.tally.Tallied.{Tallied}
use Rattle.jp_evaluate.specs.declared.tally.Way.{Way}
use Rattle.jp_evaluate.specs.declared.tally.Ways.{Ways}

-- a count as 64 bits tell it
abbrev pub capped : ℕ → ℕ
capped n = min n (2 ^ 64 - 1)

-- ---- sums over ways

abbrev pub all_ways : Ways → List Way
all_ways w = w.first ∷ w.more.items

abbrev pub ways_sum : (Way → ℕ) → Ways → ℕ
ways_sum h w = sum_by h (all_ways w)

-- it is counted for as many ways as there are
abbrev pub Counts : (Way → ℕ) → Type 0
Counts h = (g : ℕ → ℕ) × ((w : Way) → h w ≡ w.count * g w.done)

-- it is the same however many ways there are
abbrev pub IsByDone : (Way → ℕ) → Type 0
IsByDone h = (w x : Way) → w.done ≡ x.done → h w ≡ h x

-- what is summed of the ways that lead to values one step inside another, by their steps
abbrev pub ByStep : Type 0
ByStep = Step → Way → ℕ

abbrev pub CountsEach : ByStep → Type 0
CountsEach h = (k : Step) → Counts (h k)

abbrev pub AreByDone : ByStep → Type 0
AreByDone h = (k : Step) → IsByDone (h k)

abbrev pub children_sum : {V : Type 0} → ByStep → BTreeMap code.Step (Place V) → ℕ
children_sum h c = sum_by (λ e. ways_sum (h (step_of e.0)) e.1.ways) c.entries

-- over those that lead to places
abbrev pub places_sum : {V : Type 0} → (V → Value) → (Value → Way → ℕ) → List (Place V) → ℕ
places_sum m h ps = sum_by (λ p. ways_sum (h (m p.value)) p.ways) ps

-- each of the values is that which its step leads to from v
abbrev pub AreInside : {V : Type 0} → (V → Value) → Value → BTreeMap code.Step (Place V) → Type 0
AreInside m v c = All (λ e. child v (step_of e.0) ≡ Some (m e.1.value)) c.entries

-- what is summed by values, by the steps to them from v
abbrev pub inside : Value → (Value → Way → ℕ) → ByStep
inside v h k w = option_map_or (λ u. h u w) (child v k) 0

-- ---- what is summed

-- of nodes what f is of their values
abbrev pub node_sum : (Value → ℕ) → List Node → ℕ
node_sum f ns = sum_by (λ n. f n.value) ns

-- of what ways lead to v, in a document of value d: that of the nodes that the segments after them
-- reach from v, once for each way
abbrev pub reached_sum : (Value → ℕ) → List Segment → Value → Value → Way → ℕ
reached_sum f all d v w = w.count * node_sum f (reaches (segments_left all w.done) d (root_of v))

-- where there are no segments after them, that of v itself
abbrev pub ended : ℕ → Way → ℕ
ended segments w = if nat_le segments w.done then w.count else 0

-- where there are, that of what the next segment chooses
abbrev pub choice_sum : (Value → ℕ) → Value → Choice → ℕ
choice_sum f d c =
    if passes c.test d (root_of c.value) then node_sum f (reaches c.left d (root_of c.value)) else 0

abbrev pub choices_at : List Segment → Value → ℕ → List Choice
choices_at all v done = choices_from v (turns (segments_left all done)) 0

abbrev pub spread_sum : (Value → ℕ) → List Segment → Value → Value → Way → ℕ
spread_sum f all d v w = w.count * sum_by (choice_sum f d) (choices_at all v w.done)

-- ---- how many choices there are at most

abbrev pub way_weight : List Segment → Value → Way → ℕ
way_weight all v w = weight (segments_left all w.done) v

abbrev pub spread_weight : List Segment → Value → ℕ → ℕ
spread_weight all v done = sum_by (λ c. weight c.left c.value) (choices_at all v done)

-- the steps of going on by a way: of going into the value, and one for each choice
abbrev pub way_cost : List Segment → Value → ℕ → ℕ
way_cost all v done = entering_cost (segments_left all done) + length (choices_at all v done)

-- ---- what is told

-- of n nodes, where it ends at more than `most`
pub record Tells (most count n : ℕ) : Type 0 where
  pub all : count ≤ most → capped count ≡ capped n
  pub more : most < count → most < n

-- of the nodes that were reached, where there is one at most
abbrev pub first_sum : {V : Type 0} → (V → Value) → (Value → ℕ) → Tallied V → ℕ
first_sum m f t = t.count * option_map_or (λ v. f (m v)) t.first 0
