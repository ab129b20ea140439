-- What is said of the steps of a call: where it gives a node, and where it is given up.
use Rattle.std.specs.Prelude.{◌≡◌, ◌+◌, ◌*◌, ◌≤◌, ℕ, true, Option, Result, IfErr, IfOk, OnSome}
use Rattle.std.specs.Prelude.{Some, length}
use Rattle.jp_document.specs.Value.{Value, text}
use Rattle.jp_select.specs.Steps.{Counts, IsSpent}
use Rattle.jp_select.specs.declared.steps.Steps.{Steps}
use Rattle.jp_evaluate.specs.declared.evaluation_fault.EvaluationFault.{EvaluationFault}
use Rattle.jp_evaluate.specs.declared.evaluation_fault.EvaluationFault.TheVariants.{StepsUsedUp}

-- that the steps are used up is answered only where they were limited and none is left
abbrev pub StopsSpent : {X : Type 0} → Result X EvaluationFault → Steps → Type 0
StopsSpent r s = IfErr r (λ e. e ≡ StepsUsedUp → IsSpent s)

-- what is given took at least one step
abbrev pub GivenCounts : {X : Type 0} → Result (Option X) EvaluationFault → Steps → Steps → Type 0
GivenCounts r before after = IfOk r (λ o. OnSome o (Counts 1 before after))

-- at least a step for each 64 of so many was taken, if they are limited
pub record CountsBy64 (n : ℕ) (before after : Steps) : Type 0 where
  pub many : before.limited ≡ true → 64 * after.left + n ≤ 64 * before.left

-- how many bytes a text has; other values and Nothing have none
abbrev pub text_bytes : Option Value → ℕ
text_bytes (Some (text s)) = length s
text_bytes _ = 0
