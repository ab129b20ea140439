-- What a run says whose task is known.
use Rattle.std.proofs.Common.{◌≡◌, inr, ℕ, Bool, List, [], Option, Ok, Err, Result, subst}
use Rattle.std.specs.Prelude.{⊤}
use Rattle.jp_command.specs.declared.fault.Fault.TheVariants as fault
use Rattle.jp_lines.specs.Private.Asking.{RunsAsked}
use Rattle.jp_lines.specs.Request.{IsTaskOf, Request}
use Rattle.jp_lines.specs.Run.{GoesAsAsked, GoesOver, RunsLines}
use Rattle.jp_lines.specs.Task.{Task}
use Rattle.jp_lines.specs.declared.options.Options.{Options}
use Rattle.jp_lines.specs.declared.stop.Stop.{Stop}
use Rattle.jp_lines.specs.declared.stop.Stop.TheVariants as stop
use Rattle.jp_lines.specs.declared.tally.Tally.{Tally}

module _ (options : Options) {R W E : Type 0} (remaining : R → Option (List ℕ)) (has_failed : R → Bool)
    (read_gives : R → Option (List ℕ) → R → Type 0) (contents : W → Option (List ℕ))
    (writes_failed : W → Bool) (reports : E → Option (List ℕ)) (reports_failed : E → Bool)
    (request : Request) (i j : R) (o p : W) (u v : E) where
  -- it is that of an input without a name
  pub goes-asked : (lead : List ℕ) (task : Task) (tally : Tally) (end : Result ⊤ Stop) → lead ≡ []
      → IsTaskOf options.profile request task
      → GoesOver options lead remaining has_failed read_gives contents writes_failed reports
      reports_failed task i j o p u v tally end
      → GoesAsAsked options remaining has_failed read_gives contents writes_failed reports
      reports_failed request i j o p u v tally end
  goes-asked lead task tally end none asked goes = record {
    task = task;
    asked = asked;
    goes = subst
        (λ l. GoesOver options l remaining has_failed read_gives contents writes_failed reports
        reports_failed task i j o p u v tally end)
        none goes;
  }

  -- and it is what a run says
  pub asked-runs : (answer : Result Tally Stop)
      → RunsAsked options remaining has_failed read_gives contents writes_failed reports
      reports_failed request i j o p u v answer
      → RunsLines options remaining has_failed read_gives contents writes_failed reports
      reports_failed request i j o p u v answer
  asked-runs (Ok tally) run = run
  asked-runs (Err (stop.Line r)) run = run
  asked-runs (Err (stop.Run fault.NoMemory)) run = inr run
  asked-runs (Err (stop.Run fault.Read)) run = run
  asked-runs (Err (stop.Run fault.Write)) run = run
  asked-runs (Err (stop.Run (fault.Query r))) run = absurd run.1.goes
  asked-runs (Err (stop.Run (fault.Document f))) run = run
  asked-runs (Err (stop.Run fault.DocumentTooLarge)) run = run
