-- How far a text that was asked for was written, and why not to its end. `write_shown` cites it.
use Rattle.std.specs.Prelude.{◌≡◌, ℕ, Bool, true, List, Option, Result, Ok, Err}
use Rattle.jp_command.specs.Output.{AppendsPrefix, WritesAll}
use Rattle.jp_command.specs.Writes.{GoByCalls, GoesToAFailure}
use Rattle.jp_command.specs.declared.fault.Fault.{Fault}
use Rattle.jp_command.specs.declared.fault.Fault.TheVariants.{NoMemory, Write}

-- o and p are the output before and after
module _ {W : Type 0} (has_failed : W → Bool) (o p : W) where
  abbrev pub StopsShowing : Fault → Type 0
  StopsShowing NoMemory = p ≡ o
  StopsShowing Write = has_failed p ≡ true
  StopsShowing _ = ⊥

module _ {W : Type 0} (contents : W → Option (List ℕ)) (has_failed : W → Bool)
    (write_takes : W → Option (List ℕ) → W → Type 0) (o p : W) where
  -- some text was written to its end, or a prefix of it before a call that failed, the last that was made
  abbrev pub GoesShowing : {X : Type 0} → Result X Fault → Type 0
  GoesShowing (Ok x) =
      (text : List ℕ) × WritesAll contents has_failed o p text × GoByCalls write_takes o p text
  GoesShowing (Err Write) =
      (text : List ℕ) × AppendsPrefix (contents o) (contents p) text
      × GoesToAFailure write_takes o p text
  GoesShowing (Err _) = Unit {0}
