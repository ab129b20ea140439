-- What is done with one line. The clause of `treat` cites it.
use Rattle.std.specs.Prelude.{◌≡◌, ℕ, Bool, List, [], ◌∷◌, Option}
use Rattle.jp_lines.specs.Outcome.{LineOutcome, left_after, plus, tally_in}
use Rattle.jp_lines.specs.Run.{Goes}
use Rattle.jp_lines.specs.Task.{Task}
use Rattle.jp_lines.specs.declared.options.Options.{Options}
use Rattle.jp_lines.specs.declared.tally.Tally.{Tally}

-- o and p are the output before and after, u and v what takes the refusals of lines
module _ (options : Options) (lead : List ℕ) {W E : Type 0} (contents : W → Option (List ℕ))
    (writes_failed : W → Bool) (reports : E → Option (List ℕ)) (reports_failed : E → Bool)
    (task : Task) (number : ℕ) (line : List ℕ) where
  -- the line came to its outcome, which is written and told, and counted with the lines before it
  pub record Treats (before after : Tally) (o p : W) (u v : E) : Type 0 where
    pub outcome : LineOutcome
    pub goes : Goes options lead contents writes_failed reports reports_failed task
        (left_after before.refused options.reports) number (line ∷ []) (outcome ∷ []) o p u v
    pub counts : after ≡ plus before (tally_in outcome)
