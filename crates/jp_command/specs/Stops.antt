-- Why an input was not read to its end. The clause `stopped` of `read_all` cites it.
use Rattle.std.specs.Prelude.{ℕ, Bool, List, Option}
use Rattle.jp_command.specs.Input.{FailsToRead, ReadsSome, ReadsTooMuch}
use Rattle.jp_command.specs.declared.fault.Fault.{Fault}
use Rattle.jp_command.specs.declared.fault.Fault.TheVariants.{DocumentTooLarge, NoMemory, Read}

-- i and j are the input before and after
module _ {R : Type 0} (remaining : R → Option (List ℕ)) (has_failed : R → Bool)
    (read_gives : R → Option (List ℕ) → R → Type 0) where
  abbrev pub StopsReading : R → R → Fault → Type 0
  StopsReading i j DocumentTooLarge = ReadsTooMuch remaining has_failed read_gives i j
  StopsReading i j Read = FailsToRead remaining has_failed read_gives i j
  StopsReading i j NoMemory = ReadsSome remaining has_failed read_gives i j
  StopsReading i j _ = ⊥
