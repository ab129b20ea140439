-- How many steps a call makes, and how many nodes and bytes of their lines it gives. A limit of 0 is none.
use Rattle.std.specs.Prelude.{◌≡◌, ◌≢◌, ◌≤◌, ◌==◌, ℕ, if◌then◌else◌, Option, None, Some}
use Rattle.jp_limit.specs.declared.output_limit.OutputLimit.{OutputLimit}
use Rattle.jsonpath.specs.declared.fault.FindFault.TheVariants as find
use Rattle.jp_c.specs.declared.limit.Limit.{Limit}
use Rattle.jp_c.specs.declared.outcome.Outcome as outcome
use Rattle.jp_c.specs.declared.outcome.Outcome.TheVariants.{Text, Usage, Fault, Misread, OtherNumbers}

-- so many at most: of 0 any number
abbrev pub most_of : ℕ → Option ℕ
most_of count = if count == 0 then None else Some count

-- the most that may come out
abbrev pub output_within : Limit → OutputLimit
output_within limit = record { nodes = most_of limit.nodes; bytes = most_of limit.bytes }

-- no more steps than a limit that there is
abbrev pub IsWithin : ℕ → ℕ → Type 0
IsWithin limit steps = limit ≢ 0 → steps ≤ limit

-- so many steps were made for an outcome: they are used up only where all were made that a limit
-- allows, and a query or a document that is refused takes none, nor does a document read with other numbers
abbrev pub MakesSteps : ℕ → outcome.Outcome → ℕ → Type 0
MakesSteps limit (Text text) steps = IsWithin limit steps
MakesSteps limit (Fault find.NoMemory) steps = IsWithin limit steps
MakesSteps limit (Fault find.StepsUsedUp) steps = (limit ≢ 0) × (steps ≡ limit)
MakesSteps limit (Fault find.TooManyNodes) steps = IsWithin limit steps
MakesSteps limit (Fault find.TooManyBytes) steps = IsWithin limit steps
MakesSteps limit (Fault (find.Query r)) steps = steps ≡ 0
MakesSteps limit (Fault (find.Document f)) steps = steps ≡ 0
MakesSteps limit (Fault find.DocumentTooLarge) steps = steps ≡ 0
MakesSteps limit (Misread f place) steps = steps ≡ 0
MakesSteps limit Usage steps = steps ≡ 0
MakesSteps limit OtherNumbers steps = steps ≡ 0

-- an outcome of that kind, with as much as the limit allows to come out, in as many steps as it allows
abbrev pub Within : Limit → (OutputLimit → outcome.Outcome → Type 0) → outcome.Outcome → ℕ → Type 0
Within limit IsOutcome o steps = IsOutcome (output_within limit) o × MakesSteps limit.steps o steps

-- an outcome of that kind, for which nothing is evaluated
abbrev pub AtOnce : (outcome.Outcome → Type 0) → outcome.Outcome → ℕ → Type 0
AtOnce IsOutcome o steps = IsOutcome o × (steps ≡ 0)
