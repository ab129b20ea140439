-- How far a text was written, and by which calls, by the answer. The clauses of what writes cite it.
use Rattle.std.specs.Prelude.{◌≡◌, ℕ, Bool, true, List, Option, Result, Ok, Err}
use Rattle.jp_command.specs.Output.{AppendsPrefix}
use Rattle.jp_command.specs.Writes.{GoByCalls, GoesInPart, GoesToAFailure}
use Rattle.jp_command.specs.declared.fault.Fault.{Fault}
use Rattle.jp_command.specs.declared.fault.Fault.TheVariants.{NoMemory, Write}

-- o and p are the output before and after
module _ {W : Type 0} (contents : W → Option (List ℕ)) (has_failed : W → Bool) where
  -- why the text was not written to its end; a prefix of it was
  abbrev pub StopsWriting : W → W → List ℕ → Fault → Type 0
  StopsWriting o p text NoMemory =
      AppendsPrefix (contents o) (contents p) text × (has_failed p ≡ has_failed o)
  StopsWriting o p text Write = AppendsPrefix (contents o) (contents p) text × (has_failed p ≡ true)
  StopsWriting o p text _ = ⊥

module _ {W : Type 0} (write_takes : W → Option (List ℕ) → W → Type 0) where
  -- how far the text went
  abbrev pub GoesAs : {X : Type 0} → W → W → List ℕ → Result X Fault → Type 0
  GoesAs o p text (Ok x) = GoByCalls write_takes o p text
  GoesAs o p text (Err Write) = GoesToAFailure write_takes o p text
  GoesAs o p text (Err _) = GoesInPart write_takes o p text
