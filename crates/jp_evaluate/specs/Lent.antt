-- What an iterator of nodes that are lent still has to give.
use Rattle.std.specs.Prelude.{◌≡◌, ◌++◌, ℕ, List, Bool, Option, Result, Vec, map, take}
use Rattle.std.specs.List.{flat_map}
use Rattle.std.specs.declared.alloc.Global.{Global}
use Rattle.jp_document.specs.Location.{Location, step_of}
use Rattle.jp_document.specs.Node.{Node, node_at}
use Rattle.jp_document.specs.Value.{Value}
use Rattle.jp_document.specs.declared.location.Step.{Step}
use Rattle.jp_select.specs.Giving.{GivesNextAs}
use Rattle.jp_select.specs.declared.steps.Steps.{Steps}
use Rattle.jp_evaluate.specs.Private.Segments.{nodes_to_come}
use Rattle.jp_evaluate.specs.Private.Walk.{steps_of as step_list, walk_steps}
use Rattle.jp_evaluate.specs.declared.lent.LentNodes.{LentNodes}

-- the node of these steps and this value, where m says what the value stands for
abbrev pub lent_node : {V : Type 0} → (V → Value) → Vec Step Global × V → Node
lent_node m n = node_at (map step_of n.0.items) (m n.1)

-- the nodes that it still has to give, told by what it holds now
abbrev pub rest_of : {V M : Type 0} → (V → Value) → LentNodes V M → List Node
rest_of m v = nodes_to_come m (m v.evaluation.root) v.segments v.walk

-- a node could not be given, for an error, so that no more are given
abbrev pub has_failed : {V M : Type 0} → LentNodes V M → Bool
has_failed v = v.failed

-- what one call gives of the next node where its location is not told: its value, which stands somewhere
abbrev pub GivesNextValue : {V M E : Type 0} → (V → Value) → LentNodes V M → Option (Result V E)
    → LentNodes V M → Type 0
GivesNextValue m v r w = (l : Location) × GivesNextAs (λ x. node_at l (m x)) (rest_of m) has_failed v r w

-- the steps that it may still make
abbrev pub steps_of : {V M : Type 0} → LentNodes V M → Steps
steps_of v = v.work.steps

-- the steps by which its walk went to where it stands, one for each value on the way, of which the first
-- has none
abbrev pub way_of : {V M : Type 0} → LentNodes V M → List (Option Step)
way_of v = walk_steps v.walk

-- the location of a value one step on, or of the same value
abbrev pub location_of : Option Step → Location
location_of = step_list

-- where it stands
abbrev pub stand_of : {V M : Type 0} → LentNodes V M → Location
stand_of v = flat_map location_of (way_of v)

-- where the node is that was given last
abbrev pub place_of : {V M : Type 0} → LentNodes V M → Location
place_of v = stand_of v ++ location_of v.last

-- that node, of this value
abbrev pub given_node : {V M : Type 0} → (V → Value) → LentNodes V M → V → Node
given_node m v x = node_at (place_of v) (m x)

-- how many values on the way were kept, from the first on
abbrev pub kept_of : {V M : Type 0} → LentNodes V M → ℕ
kept_of v = v.walk.kept

-- those that w keeps stand on the way of v as on its own
abbrev pub KeepsWay : {V M : Type 0} → LentNodes V M → LentNodes V M → Type 0
KeepsWay v w = take (kept_of w) (way_of w) ≡ take (kept_of w) (way_of v)
