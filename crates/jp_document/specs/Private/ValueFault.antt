-- Why a reading has no value: its first number that is not whole. A `ValueFault` has the last
-- step first.
use Rattle.std.specs.Prelude.{◌≡◌, [], ◌∷◌, ◌++◌, map, reverse, string_bytes}
use Rattle.serde_json.specs.Data.{Data}
use Rattle.jp_document.specs.declared.location.OwnedStep.{OwnedStep}
use Rattle.jp_document.specs.declared.value_fault.ValueFault.{ValueFault}
use Rattle.jp_document.specs.declared.value_fault.ValueFault.TheVariants.{Fraction}
use Rattle.jp_document.specs.declared.fault.DocumentFault.{DocumentFault}
use Rattle.jp_document.specs.declared.fault.DocumentFault.TheVariants.{NotJson, NotWhole}
use Rattle.jp_document.specs.declared.fault.DocumentFault.TheVariants.{ListTooLong, NoMemory}
use Rattle.jp_document.specs.declared.fault.DocumentFault.TheVariants.{NumberRange}
use Rattle.jp_document.specs.Path.{path_of}
use Rattle.jp_document.specs.Document.{IsFirstFraction}
use Rattle.jp_document.specs.Location.{owned_step}

-- the fault one step further out: the same steps, and then that step
abbrev pub IsFaultWithin : ValueFault → OwnedStep → ValueFault → Type 0
IsFaultWithin (Fraction steps) step (Fraction more) = more.items ≡ steps.items ++ step ∷ []
IsFaultWithin ValueFault.NoMemory step (Fraction more) = ⊥
IsFaultWithin fault step ValueFault.NoMemory = Unit {0}

-- the path of a fraction with these steps, reversed; running out of memory says nothing
abbrev pub IsFaultAt : ValueFault → DocumentFault → Type 0
IsFaultAt (Fraction steps) (NotWhole path) =
    string_bytes path ≡ path_of (reverse (map owned_step steps.items))
IsFaultAt (Fraction steps) NoMemory = Unit {0}
IsFaultAt (Fraction steps) NotJson = ⊥
IsFaultAt (Fraction steps) ListTooLong = ⊥
IsFaultAt (Fraction steps) (NumberRange path) = ⊥
IsFaultAt ValueFault.NoMemory fault = fault ≡ NoMemory

-- the steps are those of the first fraction, reversed
abbrev pub IsValueFaultOf : Data → ValueFault → Type 0
IsValueFaultOf d (Fraction steps) = IsFirstFraction d (reverse (map owned_step steps.items))
IsValueFaultOf d ValueFault.NoMemory = Unit {0}
