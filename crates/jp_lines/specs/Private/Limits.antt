-- What limits allow, how many nodes are asked for, and what an evaluation that is given up means for its
-- line. The clauses of `write_wanted` and of what it calls cite it.
use Rattle.std.specs.Prelude.{◌≡◌, ◌⊎◌, ℕ, Bool, true, false, List, Option, Some, None, Result, Ok}
use Rattle.std.specs.Prelude.{Err, length}
use Rattle.jp_limit.specs.OutputLimit.{Exceeds, StaysWithin}
use Rattle.jp_limit.specs.declared.output_limit.OutputLimit.{OutputLimit}
use Rattle.jp_select.specs.declared.steps.Steps.{Steps}
use Rattle.jp_cells.specs.declared.fault.RowFault.{RowFault}
use Rattle.jp_cells.specs.declared.fault.RowFault.TheVariants as row
use Rattle.jp_command.specs.Output.{WritesAll}
use Rattle.jp_command.specs.declared.fault.Fault.{Fault}
use Rattle.jp_command.specs.declared.fault.Fault.TheVariants.{NoMemory}
use Rattle.jp_command.specs.declared.selection_fault.SelectionFault.{SelectionFault}
use Rattle.jp_command.specs.declared.selection_fault.SelectionFault.TheVariants as selection
use Rattle.jp_lines.specs.declared.answer.Reply.{Reply}
use Rattle.jp_lines.specs.declared.answer.Reply.TheVariants.{Blank, Refused, Written}
use Rattle.jp_lines.specs.declared.defect.Defect.{Defect}
use Rattle.jp_lines.specs.declared.defect.Defect.TheVariants.{StepsUsedUp, TooManyBytes, TooManyNodes}
use Rattle.jp_lines.specs.declared.options.Extent.{Extent}
use Rattle.jp_lines.specs.declared.options.Extent.TheVariants.{All, First}
use Rattle.jp_lines.specs.declared.options.Options.{Options}

-- one evaluation may make these steps
abbrev pub IsAllowed : Option ℕ → Steps → Type 0
IsAllowed (Some limit) s = (s.limited ≡ true) × (s.left ≡ limit)
IsAllowed None s = s.limited ≡ false

-- how many nodes of an extent there are at most, where that is known
abbrev pub most_within : Extent → Option ℕ
most_within All = None
most_within First = Some 1

-- what keeps a row from being made, as what keeps lines
abbrev pub fault_of_row : RowFault → SelectionFault
fault_of_row row.NoMemory = selection.NoMemory
fault_of_row row.StepsUsedUp = selection.StepsUsedUp
fault_of_row row.TooManyNodes = selection.TooManyNodes
fault_of_row row.TooManyBytes = selection.TooManyBytes

-- what it means that an evaluation was given up after so many steps: want of memory is no defect,
-- and a fault of the run
abbrev pub stop_of : SelectionFault → ℕ → Result Reply Fault
stop_of selection.NoMemory made = Err NoMemory
stop_of selection.StepsUsedUp made = Ok (Refused (StepsUsedUp made))
stop_of selection.TooManyNodes made = Ok (Refused TooManyNodes)
stop_of selection.TooManyBytes made = Ok (Refused TooManyBytes)

-- that nodes are not counted to their end: there are more than the limit says; the other faults say nothing
-- of their count, and it is never told of their bytes
abbrev pub IsMoreThan : Option ℕ → ℕ → SelectionFault → Type 0
IsMoreThan limit count selection.TooManyNodes = Exceeds limit count
IsMoreThan limit count selection.TooManyBytes = ⊥
IsMoreThan limit count selection.NoMemory = Unit {0}
IsMoreThan limit count selection.StepsUsedUp = Unit {0}

-- the defect of a document of which so many nodes and bytes were to come out
abbrev pub IsExcess : OutputLimit → ℕ → ℕ → Defect → Type 0
IsExcess limit nodes bytes TooManyNodes = Exceeds limit.nodes nodes
IsExcess limit nodes bytes TooManyBytes = Exceeds limit.bytes bytes
IsExcess limit nodes bytes _ = ⊥

-- o and p are the output before and after
module _ {W : Type 0} (contents : W → Option (List ℕ)) (has_failed : W → Bool) (options : Options)
    (count : ℕ) (text : List ℕ) (o p : W) where
  -- The text is written, of a document in which so many nodes are selected, and no more than may come out
  -- of one. Or nothing is written: all steps that the limit allows were made, or it is more.
  abbrev pub WritesOrGivesUp : Reply → Type 0
  WritesOrGivesUp Blank = ⊥
  WritesOrGivesUp (Written selected) = (selected ≡ count)
      × StaysWithin options.output_limit count (length text) × WritesAll contents has_failed o p text
  WritesOrGivesUp (Refused (StepsUsedUp made)) = (options.limit ≡ Some made) × (p ≡ o)
  WritesOrGivesUp (Refused defect) =
      IsExcess options.output_limit count (length text) defect × (p ≡ o)

  -- what is written in part is no more than may come out either; else memory ran out before
  abbrev pub WritesWithin : Fault → Type 0
  WritesWithin fault = ((fault ≡ NoMemory) × (p ≡ o))
      ⊎ StaysWithin options.output_limit count (length text)
