-- Locations, their order, and the value that stands at one (RFC 9535 section 1.1).
use Rattle.std.specs.Prelude.{ℕ, suc, List, [], ◌∷◌, Option, Some, option_and_then, option_map}
use Rattle.std.specs.Prelude.{string_bytes}
use Rattle.std.specs.BTreeMap.{is_at}
use Rattle.std.specs.Cmp.Lexicographic.{slice_cmp}
use Rattle.std.specs.Map.{lookup}
use Rattle.std.specs.Ordering.{nat_cmp}
use Rattle.std.specs.declared.cmp.Ordering.{Ordering}
use Rattle.std.specs.declared.cmp.Ordering.TheVariants.{Less, Greater}
use Rattle.jp_document.specs.declared.location.Step as code
use Rattle.jp_document.specs.declared.location.Step.TheVariants as step
use Rattle.jp_document.specs.declared.location.OwnedStep.{OwnedStep}
use Rattle.jp_document.specs.declared.location.OwnedStep.TheVariants as owned
use Rattle.jp_document.specs.Value.{Value, list, object, Items, no_items}
use Rattle.jp_document.specs.Value.{item, Members, no_members, member}

-- One step of a location: a member's name, by its bytes, or an item's index from 0.
pub data Step : Type 0 where
  named : List ℕ → Step
  nth : ℕ → Step

abbrev pub Location : Type 0
Location = List Step

abbrev pub step_of : code.Step → Step
step_of (step.Name s) = named s.now
step_of (step.Index i) = nth i

abbrev pub owned_step : OwnedStep → Step
owned_step (owned.Name s) = named (string_bytes s)
owned_step (owned.Index i) = nth i

-- names compare by bytes, indexes by number
abbrev pub step_cmp : Step → Step → Ordering
step_cmp (named s) (named t) = slice_cmp nat_cmp s t
step_cmp (named s) (nth j) = Less
step_cmp (nth i) (named t) = Greater
step_cmp (nth i) (nth j) = nat_cmp i j

-- document order: a location is before each longer one that begins with it; else the first
-- differing step decides
abbrev pub location_cmp : Location → Location → Ordering
location_cmp = slice_cmp step_cmp

-- the items, the first at index i
abbrev pub items_from : ℕ → Items → List (Step × Value)
items_from i no_items = []
items_from i (item v vs) = (nth i, v) ∷ items_from (suc i) vs

abbrev pub members_by_name : Members → List (Step × Value)
members_by_name no_members = []
members_by_name (member n v ms) = (named n, v) ∷ members_by_name ms

-- the values one step inside v, each at its step
abbrev pub entries : Value → List (Step × Value)
entries (list vs) = items_from 0 vs
entries (object ms) = members_by_name ms
entries _ = []

-- the value one step inside v, if there is one
abbrev pub child : Value → Step → Option Value
child v k = lookup (is_at (step_cmp k)) (entries v)

-- the value one step inside v, with its step, if there is one
abbrev pub child_entry : Value → Step → Option (Step × Value)
child_entry v k = option_map (λ w. (k, w)) (child v k)

-- the value that stands at a location in v, if there is one
abbrev pub value_at : Value → Location → Option Value
value_at v [] = Some v
value_at v (k ∷ l) = option_and_then (λ w. value_at w l) (child v k)
