-- Why no row is made: the steps, and what comes out.
use Rattle.std.specs.Prelude.{◌≡◌, ℕ, Result, IfErr}
use Rattle.jp_limit.specs.OutputLimit.{Exceeds}
use Rattle.jp_limit.specs.declared.output_limit.OutputLimit.{OutputLimit}
use Rattle.jp_select.specs.Steps.{IsSpent}
use Rattle.jp_select.specs.declared.steps.Steps.{Steps}
use Rattle.jp_cells.specs.declared.fault.RowFault.{RowFault}
use Rattle.jp_cells.specs.declared.fault.RowFault.TheVariants.{NoMemory, StepsUsedUp}
use Rattle.jp_cells.specs.declared.fault.RowFault.TheVariants.{TooManyBytes, TooManyNodes}

-- of so many nodes and a row of so many bytes no row is made for that: there are more nodes than the limit
-- says, or more bytes; the other faults say nothing of either
abbrev pub IsTooMuch : OutputLimit → ℕ → ℕ → RowFault → Type 0
IsTooMuch limit nodes bytes TooManyNodes = Exceeds limit.nodes nodes
IsTooMuch limit nodes bytes TooManyBytes = Exceeds limit.bytes bytes
IsTooMuch limit nodes bytes NoMemory = Unit {0}
IsTooMuch limit nodes bytes StepsUsedUp = Unit {0}

-- that the steps are used up is answered only where they were limited and none is left
abbrev pub StopsWithoutSteps : {X : Type 0} → Result X RowFault → Steps → Type 0
StopsWithoutSteps r s = IfErr r (λ e. e ≡ StepsUsedUp → IsSpent s)
