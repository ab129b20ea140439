-- The steps that a walk still has to make; d is the document's value throughout, and m says what a value that is
-- lent stands for.
use Rattle.std.specs.Prelude.{◌≡◌, ◌≤◌, ℕ, ◌+◌, true, List, if◌then◌else◌, sum_by}
use Rattle.std.specs.Prelude.{Option, Some, None}
use Rattle.jp_document.specs.Node.{root_of}
use Rattle.jp_document.specs.Value.{Value}
use Rattle.jp_tree.specs.declared.tree.Segment.{Segment}
use Rattle.jp_select.specs.declared.steps.Steps.{Steps}
use Rattle.jp_evaluate.specs.Cost.{cost}
use Rattle.jp_evaluate.specs.Private.Walk.{Choice, offered, passes, pending}
use Rattle.jp_evaluate.specs.declared.walk.Offer.{Offer}
use Rattle.jp_evaluate.specs.declared.walk.Walk.{Walk}

-- of a choice, and of all that it leads to
abbrev pub choice_cost : Value → Choice → ℕ
choice_cost d c = if passes c.test d (root_of c.value) then cost c.left d c.value else 1

-- of what a walk still has to offer
abbrev pub walk_cost : {V : Type 0} → (V → Value) → List Segment → Value → Walk V → ℕ
walk_cost m all d w = sum_by (λ c. choice_cost d c.1) (pending m all w)

-- of an offer, with that of what is left behind it; where there is none nothing is left
abbrev pub offer_cost : {V : Type 0} → (V → Value) → List Segment → Value → Option (Offer V) → ℕ → ℕ
offer_cost m all d None n = 0
offer_cost m all d (Some o) n = choice_cost d (offered m all o) + n

-- of so many steps that were to be made all but those that are left were made, if they are limited
pub record Pays (due left : ℕ) (before after : Steps) : Type 0 where
  pub paid : before.limited ≡ true → after.left + due ≤ before.left + left
