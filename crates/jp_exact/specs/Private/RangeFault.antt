-- Why a value can't be held: its first number out of range. A `RangeFault` has the last step first.
use Rattle.std.specs.Prelude.{◌≡◌, [], ◌∷◌, ◌++◌, map, reverse, string_bytes}
use Rattle.jp_document.specs.declared.location.OwnedStep.{OwnedStep}
use Rattle.jp_document.specs.Location.{owned_step}
use Rattle.jp_document.specs.Path.{path_of}
use Rattle.jp_document.specs.Value.{Value}
use Rattle.jp_exact.specs.Defects.{IsFirstUnheld}
use Rattle.jp_document.specs.declared.fault.DocumentFault.{DocumentFault}
use Rattle.jp_document.specs.declared.fault.DocumentFault.TheVariants.{NotJson, NotWhole, NumberRange}
use Rattle.jp_document.specs.declared.fault.DocumentFault.TheVariants.{ListTooLong, NoMemory}
use Rattle.jp_exact.specs.declared.range_fault.RangeFault.{RangeFault}
use Rattle.jp_exact.specs.declared.range_fault.RangeFault.TheVariants.{OutOfRange}

-- the fault one step further out: the same steps, and then that step
abbrev pub IsRangeFaultWithin : RangeFault → OwnedStep → RangeFault → Type 0
IsRangeFaultWithin (OutOfRange steps) step (OutOfRange more) = more.items ≡ steps.items ++ step ∷ []
IsRangeFaultWithin RangeFault.NoMemory step (OutOfRange more) = ⊥
IsRangeFaultWithin fault step RangeFault.NoMemory = Unit {0}

-- the path of a number with these steps, reversed; running out of memory says nothing
abbrev pub IsRangeFaultAt : RangeFault → DocumentFault → Type 0
IsRangeFaultAt (OutOfRange steps) (NumberRange path) =
    string_bytes path ≡ path_of (reverse (map owned_step steps.items))
IsRangeFaultAt (OutOfRange steps) NoMemory = Unit {0}
IsRangeFaultAt (OutOfRange steps) NotJson = ⊥
IsRangeFaultAt (OutOfRange steps) ListTooLong = ⊥
IsRangeFaultAt (OutOfRange steps) (NotWhole path) = ⊥
IsRangeFaultAt RangeFault.NoMemory fault = fault ≡ NoMemory

-- the steps are those of the first number in v that can't be held, reversed
abbrev pub IsRangeFaultOf : Value → RangeFault → Type 0
IsRangeFaultOf v (OutOfRange steps) = IsFirstUnheld v (reverse (map owned_step steps.items))
IsRangeFaultOf v RangeFault.NoMemory = Unit {0}
