-- Help or the version, of which not all could be written.
use Rattle.std.proofs.Common.{◌≡◌, ℕ, Bool, List, Option}
use Rattle.jp_command.specs.Line.{status_of}
use Rattle.jp_command.specs.Output.{AppendsSome}
use Rattle.jp_command.specs.Private.Showing.{StopsShowing}
use Rattle.jp_command.specs.declared.fault.Fault.{Fault}
use Rattle.jp_command.specs.declared.fault.Fault.TheVariants.{NoMemory, Write}
use Rattle.jp_lines.specs.Private.Telling.{Shows, TellsUnshown, memory, part}

module _ {W E : Type 0} (contents : W → Option (List ℕ)) (writes_failed : W → Bool)
    (hung_up : W → Bool) (holds_back : W → Bool) (reports : E → Option (List ℕ))
    (reports_failed : E → Bool) (o p : W) (u v : E) (status : ℕ) where
  pub shows-in_part : (f : Fault) → AppendsSome (contents o) (contents p)
      → StopsShowing writes_failed o p f → TellsUnshown reports reports_failed f (hung_up p) u v
      → status ≡ status_of f
      → Shows contents writes_failed hung_up holds_back reports reports_failed o p u v status
  shows-in_part NoMemory written same tells is = memory is same tells
  shows-in_part Write written failed tells is = part is written failed tells
  shows-in_part _ written none tells is = absurd none
