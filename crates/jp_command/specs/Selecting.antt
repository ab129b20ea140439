-- Which of the nodes are asked for, and why nothing is given of them.
use Rattle.std.specs.Prelude.{◌≡◌, ℕ, List, Option, Some, None, Result, IfErr, drop, take}
use Rattle.jp_document.specs.Node.{Node}
use Rattle.jp_limit.specs.OutputLimit.{Exceeds}
use Rattle.jp_limit.specs.declared.output_limit.OutputLimit.{OutputLimit}
use Rattle.jp_select.specs.Steps.{IsSpent}
use Rattle.jp_select.specs.declared.steps.Steps.{Steps}
use Rattle.jp_command.specs.declared.selection_fault.SelectionFault.{SelectionFault}
use Rattle.jp_command.specs.declared.selection_fault.SelectionFault.TheVariants.{NoMemory, StepsUsedUp}
use Rattle.jp_command.specs.declared.selection_fault.SelectionFault.TheVariants.{TooManyNodes, TooManyBytes}

-- as many nodes as are asked for, from the first on, or all of them
abbrev pub first_nodes : Option ℕ → List Node → List Node
first_nodes None ns = ns
first_nodes (Some n) ns = take n ns

-- the same of the nodes behind so many first ones
abbrev pub nodes_behind : ℕ → Option ℕ → List Node → List Node
nodes_behind passed most ns = first_nodes most (drop passed ns)

-- of so many nodes, whose lines have so many bytes, nothing is given for that: there are more nodes than the
-- limit says, or more bytes; the other faults say nothing of either
abbrev pub IsBeyond : OutputLimit → ℕ → ℕ → SelectionFault → Type 0
IsBeyond limit nodes bytes TooManyNodes = Exceeds limit.nodes nodes
IsBeyond limit nodes bytes TooManyBytes = Exceeds limit.bytes bytes
IsBeyond limit nodes bytes NoMemory = Unit {0}
IsBeyond limit nodes bytes StepsUsedUp = Unit {0}

-- that the steps are used up is answered only where they were limited and none is left
abbrev pub StopsOnlySpent : {X : Type 0} → Result X SelectionFault → Steps → Type 0
StopsOnlySpent r s = IfErr r (λ e. e ≡ StepsUsedUp → IsSpent s)
