-- Why a text is the path of no location, or of one whose indexes are too large (RFC 9535 sections
-- 2.1 and 2.7).
use Rattle.std.specs.Prelude.{◌≡◌, ℕ, nat_lt, Bool, true, false, List}
use Rattle.std.specs.List.{list_any}
use Rattle.jp_reading.specs.Numbers.{largest_exact}
use Rattle.jp_reading.specs.declared.reader.Stop.{Stop}
use Rattle.jp_reading.specs.declared.reader.Stop.TheVariants as stop
use Rattle.jp_document.specs.declared.path_fault.PathFault.{PathFault}
use Rattle.jp_document.specs.declared.path_fault.PathFault.TheVariants.{NotNormalized}
use Rattle.jp_document.specs.declared.path_fault.PathFault.TheVariants.{IndexRange, NoMemory}
use Rattle.jp_document.specs.Location.{Step, named, nth, Location}
use Rattle.jp_document.specs.Path.{path_of}

-- whether a step is an index above (2^53)-1
abbrev pub is_large : Step → Bool
is_large (named s) = false
is_large (nth i) = nat_lt largest_exact i

-- `NotNormalized`: the text is the path of no list of steps. `IndexRange`: it is the path of one
-- with an index above (2^53)-1. Running out of memory says nothing.
abbrev pub IsPathFaultOf : List ℕ → PathFault → Type 0
IsPathFaultOf text NotNormalized = (l : Location) → text ≡ path_of l → ⊥
IsPathFaultOf text IndexRange = (l : Location) × (text ≡ path_of l) × (list_any is_large l ≡ true)
IsPathFaultOf text NoMemory = Unit {0}

-- the fault of a text at which reading stops
abbrev pub fault_of : Stop → PathFault
fault_of stop.Memory = NoMemory
fault_of (stop.Syntax place) = NotNormalized
fault_of (stop.TooDeep place) = NotNormalized
