-- How the steps go that an answer is given, and how it is told that a selection gives none.
use Rattle.std.specs.Prelude.{◌≡◌, ◌==◌, ◌-◌, ◌^◌, ℕ, IfErr, Result, if◌then◌else◌, not}
use Rattle.jp_select.specs.Steps.{IsSpent, Takes}
use Rattle.jp_select.specs.declared.steps.Steps.{Steps}
use Rattle.jsonpath.specs.declared.fault.FindFault.{FindFault}
use Rattle.jsonpath.specs.declared.fault.FindFault.TheVariants.{Query, Document, DocumentTooLarge}
use Rattle.jsonpath.specs.declared.fault.FindFault.TheVariants.{NoMemory, StepsUsedUp}
use Rattle.jsonpath.specs.declared.fault.FindFault.TheVariants.{TooManyNodes, TooManyBytes}
use Rattle.jp_command.specs.declared.selection_fault.SelectionFault.{SelectionFault}
use Rattle.jp_command.specs.declared.selection_fault.SelectionFault.TheVariants as selection

-- the steps of a limit, of which 0 is none
abbrev pub steps_of_limit : ℕ → Steps
steps_of_limit limit = record {
  left = if limit == 0 then 2 ^ 64 - 1 else limit;
  limited = not (limit == 0);
}

-- what is left of the steps after a fault: none of steps that were limited where they are used up,
-- and all where a query or a document is refused
abbrev pub SpendsFor : FindFault → Steps → Steps → Type 0
SpendsFor StepsUsedUp before after = IsSpent after
SpendsFor NoMemory before after = Unit {0}
SpendsFor TooManyNodes before after = Unit {0}
SpendsFor TooManyBytes before after = Unit {0}
SpendsFor (Query r) before after = after ≡ before
SpendsFor (Document f) before after = after ≡ before
SpendsFor DocumentTooLarge before after = after ≡ before

-- the steps are only taken, and so where there is no answer
pub record Spends {A : Type 0} (answer : Result A FindFault) (before after : Steps) : Type 0 where
  pub takes : Takes before after
  pub fault : IfErr answer (λ f. SpendsFor f before after)

-- the fault of a call that a selection's is
abbrev pub fault_of_selection : SelectionFault → FindFault
fault_of_selection selection.NoMemory = NoMemory
fault_of_selection selection.StepsUsedUp = StepsUsedUp
fault_of_selection selection.TooManyNodes = TooManyNodes
fault_of_selection selection.TooManyBytes = TooManyBytes
