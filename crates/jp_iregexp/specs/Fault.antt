-- The numbers and names of the reasons why no pattern is read: for `PatternFault`.
use Rattle.std.specs.Prelude.{ℕ, List, codes}
use Rattle.jp_iregexp.specs.declared.fault.PatternFault.{PatternFault}
use Rattle.jp_iregexp.specs.declared.fault.PatternFault.TheVariants.{NotConforming, NoMemory}

-- the number of a fault
abbrev pub number_of : PatternFault → ℕ
number_of NotConforming = 1
number_of NoMemory = 2

-- its name
abbrev pub name_of : PatternFault → List ℕ
name_of NotConforming = codes "NotConforming"
name_of NoMemory = codes "NoMemory"
