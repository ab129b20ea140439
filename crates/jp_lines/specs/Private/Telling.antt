-- What is written where help or the version is asked for. `show` cites it.
use Rattle.std.specs.Prelude.{◌≡◌, ℕ, Bool, true, false, List, Option}
use Rattle.jp_command.specs.Line.{fault_line}
use Rattle.jp_command.specs.Output.{AppendsSome}
use Rattle.jp_command.specs.declared.fault.Fault.{Fault}
use Rattle.jp_command.specs.declared.fault.Fault.TheVariants.{NoMemory, Write}
use Rattle.jp_lines.specs.Program.{TellsLine, TellsWriteFault}

-- why the text could not be written; nothing of a write that failed since what reads the output hung up
abbrev pub TellsUnshown : {E : Type 0} → (E → Option (List ℕ)) → (E → Bool) → Fault → Bool → E → E → Type 0
TellsUnshown reports reports_failed Write hung_up u v = TellsWriteFault reports reports_failed hung_up u v
TellsUnshown reports reports_failed fault hung_up u v = TellsLine reports reports_failed (fault_line fault) u v

module _ {W E : Type 0} (contents : W → Option (List ℕ)) (writes_failed : W → Bool)
    (hung_up : W → Bool) (holds_back : W → Bool) (reports : E → Option (List ℕ))
    (reports_failed : E → Bool) where
  -- clap's text is written and handed on, or it is told why not, with this status
  pub data Shows (o p : W) (u v : E) (status : ℕ) : Type 0 where
    whole : status ≡ 0 → v ≡ u → AppendsSome (contents o) (contents p)
        → writes_failed p ≡ writes_failed o → holds_back p ≡ false → Shows o p u v status
    part : status ≡ 5 → AppendsSome (contents o) (contents p) → writes_failed p ≡ true
        → TellsWriteFault reports reports_failed (hung_up p) u v → Shows o p u v status
    memory : status ≡ 4 → p ≡ o → TellsLine reports reports_failed (fault_line NoMemory) u v
        → Shows o p u v status
