-- What a run over one input says whose task is known. The clauses of `run_selected` and `pass_alone` cite
-- it.
use Rattle.std.specs.Prelude.{ℕ, Bool, List, Option, Result, Ok, Err}
use Rattle.jp_lines.specs.Request.{Request}
use Rattle.jp_lines.specs.Run.{GoesAsAsked, StopsRunning}
use Rattle.jp_lines.specs.declared.options.Options.{Options}
use Rattle.jp_lines.specs.declared.stop.Stop.{Stop}
use Rattle.jp_lines.specs.declared.tally.Tally.{Tally}

-- i and j are the input before and after
module _ (options : Options) {R W E : Type 0} (remaining : R → Option (List ℕ)) (has_failed : R → Bool)
    (read_gives : R → Option (List ℕ) → R → Type 0) (contents : W → Option (List ℕ))
    (writes_failed : W → Bool) (reports : E → Option (List ℕ)) (reports_failed : E → Bool) where
  -- as a run does, but it refuses no query, and where memory ran out it stopped at a line
  abbrev pub RunsAsked : Request → R → R → W → W → E → E → Result Tally Stop → Type 0
  RunsAsked request i j o p u v (Ok tally) =
      GoesAsAsked options remaining has_failed read_gives contents writes_failed reports
      reports_failed request i j o p u v tally (Ok tt)
  RunsAsked request i j o p u v (Err stop) =
      StopsRunning options remaining has_failed read_gives contents writes_failed reports
      reports_failed request i j o p u v stop
