-- How a document's fault is told with its place.
use Rattle.std.specs.Prelude.{◌≡◌, ◌⊎◌, ℕ, List}
use Rattle.jp_decimal.specs.declared.numbers.Numbers.{Numbers}
use Rattle.jp_exact.specs.Defects.{IsDocumentFaultIn}
use Rattle.jsonpath.specs.declared.fault.FindFault.{FindFault}
use Rattle.jsonpath.specs.declared.fault.FindFault.TheVariants.{Query, Document, DocumentTooLarge}
use Rattle.jsonpath.specs.declared.fault.FindFault.TheVariants.{NoMemory, StepsUsedUp}
use Rattle.jsonpath.specs.declared.fault.FindFault.TheVariants.{TooManyNodes, TooManyBytes}
use Rattle.jp_c.specs.Misread.{IsMisreadAt}
use Rattle.jp_c.specs.declared.outcome.Outcome as outcome
use Rattle.jp_c.specs.declared.outcome.Outcome.TheVariants.{Text, Usage, Fault, Misread, OtherNumbers}

-- a fault of the document is one that its bytes have, which are to be one with such numbers
abbrev pub IsOfBytes : Numbers → List ℕ → FindFault → Type 0
IsOfBytes n bytes (Document f) = IsDocumentFaultIn n bytes f
IsOfBytes n bytes (Query r) = Unit {0}
IsOfBytes n bytes DocumentTooLarge = Unit {0}
IsOfBytes n bytes NoMemory = Unit {0}
IsOfBytes n bytes StepsUsedUp = Unit {0}
IsOfBytes n bytes TooManyNodes = Unit {0}
IsOfBytes n bytes TooManyBytes = Unit {0}

-- the fault as it is told: that of a document with its place, or where memory runs out for that, as such
abbrev pub IsTold : Numbers → List ℕ → FindFault → outcome.Outcome → Type 0
IsTold n bytes (Document f) o =
    ((place : ℕ) × IsMisreadAt n bytes place × (o ≡ Misread f place)) ⊎ (o ≡ Fault NoMemory)
IsTold n bytes (Query r) o = o ≡ Fault (Query r)
IsTold n bytes DocumentTooLarge o = o ≡ Fault DocumentTooLarge
IsTold n bytes NoMemory o = o ≡ Fault NoMemory
IsTold n bytes StepsUsedUp o = o ≡ Fault StepsUsedUp
IsTold n bytes TooManyNodes o = o ≡ Fault TooManyNodes
IsTold n bytes TooManyBytes o = o ≡ Fault TooManyBytes

-- a fault that an outcome has is one of the bytes
abbrev pub HasOfBytes : Numbers → List ℕ → outcome.Outcome → Type 0
HasOfBytes n bytes (Fault fault) = IsOfBytes n bytes fault
HasOfBytes n bytes (Text text) = Unit {0}
HasOfBytes n bytes Usage = Unit {0}
HasOfBytes n bytes (Misread f place) = Unit {0}
HasOfBytes n bytes OtherNumbers = Unit {0}

-- the outcome with its fault as it is told
abbrev pub IsPlaced : Numbers → List ℕ → outcome.Outcome → outcome.Outcome → Type 0
IsPlaced n bytes (Fault fault) o = IsTold n bytes fault o
IsPlaced n bytes (Text text) o = o ≡ Text text
IsPlaced n bytes Usage o = o ≡ Usage
IsPlaced n bytes (Misread f place) o = o ≡ Misread f place
IsPlaced n bytes OtherNumbers o = o ≡ OtherNumbers
