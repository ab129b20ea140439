-- What is kept of an input after a run that ended with a fault. The private functions that run a task
-- cite it, and those that tell the fault.
use Rattle.std.specs.Prelude.{◌≡◌, ℕ, Bool, List, Option}
use Rattle.jp_check.specs.Numbers.{numbers}
use Rattle.jp_check.specs.declared.profile.Profile.{Profile}
use Rattle.jp_exact.specs.Defects.{IsDocumentFaultIn}
use Rattle.jp_command.specs.Run.{RefusesDocument}
use Rattle.jp_command.specs.declared.fault.Fault.{Fault}
use Rattle.jp_command.specs.declared.fault.Fault.TheVariants.{Document}

-- a fault of the document is one that these bytes have in that profile
abbrev pub IsFaultOfBytes : Profile → List ℕ → Fault → Type 0
IsFaultOfBytes profile bytes (Document f) = IsDocumentFaultIn (numbers profile) bytes f
IsFaultOfBytes profile bytes _ = Unit {0}

-- i and j are the input before and after
module _ (profile : Profile) {R W : Type 0} (remaining : R → Option (List ℕ))
    (has_failed : R → Bool) (read_gives : R → Option (List ℕ) → R → Type 0)
    (contents : W → Option (List ℕ)) (writes_failed : W → Bool) where
  -- of a document that is refused, the bytes that were read
  abbrev pub KeepsRead : List ℕ → R → R → List ℕ → Fault → Type 0
  KeepsRead text i j bytes (Document f) =
      (refused : RefusesDocument profile remaining has_failed read_gives contents writes_failed text
      i j f) × (bytes ≡ refused.bytes)
  KeepsRead text i j bytes _ = Unit {0}
