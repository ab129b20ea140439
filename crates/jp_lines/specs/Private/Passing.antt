-- How the bytes of an input are gone through. The clauses of `end_line` and `take` cite it.
use Rattle.std.specs.Prelude.{◌≡◌, ℕ, suc, ◌+◌, Bool, true, false, List, [], ◌∷◌, ◌++◌, ⊤}
use Rattle.std.specs.Prelude.{length, take, Option, not, ◌==◌}
use Rattle.std.specs.List.{flat_map, list_all}
use Rattle.jp_command.specs.Limits.{document_limit}
use Rattle.jp_lines.specs.Lines.{lines_of_input, newline}
use Rattle.jp_lines.specs.Outcome.{LineOutcome, left_after, plus, tally_of}
use Rattle.jp_lines.specs.Run.{Goes, StopsAmong}
use Rattle.jp_lines.specs.Task.{Task}
use Rattle.jp_lines.specs.declared.options.Options.{Options}
use Rattle.jp_lines.specs.declared.passing.Progress.{Progress}
use Rattle.jp_lines.specs.declared.stop.Stop.{Stop}
use Rattle.jp_lines.specs.declared.tally.Tally.{Tally}

-- what is kept of a line: it, or one byte more than a document may have of it
abbrev pub kept_of : List ℕ → List ℕ
kept_of line = take (suc document_limit) line

-- no newline stands in it
abbrev pub is_in_line : List ℕ → Bool
is_in_line bytes = list_all (λ byte. not (byte == newline)) bytes

-- where a run stands: the number of the line that has begun, what it has so far, and what the lines
-- before it count
pub record Standing : Type 0 where
  pub number : ℕ
  pub line : List ℕ
  pub tally : Tally

-- the lines, each with the newline that ends it
abbrev pub ended : List (List ℕ) → List ℕ
ended lines = flat_map (λ line. line ++ newline ∷ []) lines

-- where a run stands that has this of the line that has begun
abbrev pub standing : Progress → List ℕ → Standing
standing progress line = record {
  number = progress.number;
  line = line;
  tally = progress.tally;
}

-- at the start of the first line
pub record BeginsAtStart (progress : Progress) : Type 0 where
  pub number : progress.number ≡ 1
  pub line : progress.line.items ≡ []
  pub tally : progress.tally ≡ tally_of []

-- it is what is kept of this line, in which no newline stands
abbrev pub Keeps : Progress → List ℕ → Type 0
Keeps progress line = (is_in_line line ≡ true) × (progress.line.items ≡ kept_of line)

module _ (options : Options) (lead : List ℕ) {W E : Type 0} (contents : W → Option (List ℕ))
    (writes_failed : W → Bool) (reports : E → Option (List ℕ)) (reports_failed : E → Bool)
    (task : Task) where
  -- lines came to outcomes, which leads from s to t
  pub record GoesThrough (lines : List (List ℕ)) (s t : Standing) (o p : W) (u v : E) : Type 0 where
    pub outcomes : List LineOutcome
    pub goes : Goes options lead contents writes_failed reports reports_failed task
        (left_after s.tally.refused options.reports) s.number lines outcomes o p u v
    pub number : t.number ≡ s.number + length lines
    pub counts : t.tally ≡ plus s.tally (tally_of outcomes)

  -- more bytes of the input came, and the lines that ended in them were gone over
  pub record Passes (bytes : List ℕ) (s t : Standing) (o p : W) (u v : E) : Type 0 where
    pub lines : List (List ℕ)
    pub is : s.line ++ bytes ≡ ended lines ++ t.line
    pub whole : list_all is_in_line lines ≡ true
    pub over : GoesThrough lines s t o p u v

  -- the same of what is kept: a and b are the progress before and after
  pub record PassesOn (bytes : List ℕ) (a b : Progress) (line : List ℕ) (o p : W) (u v : E) : Type 0 where
    pub next : List ℕ
    pub keeps : Keeps b next
    pub passes : Passes bytes (standing a line) (standing b next) o p u v

  -- Why the lines, all of these, were not gone through to the end: `before` counts those before them, and
  -- `after` also those before the stop.
  pub record StopsWithin (number : ℕ) (all : List (List ℕ)) (at_end : Type 0) (ended : ℕ)
      (before after : Tally) (o p : W) (u v : E) (stop : Stop) : Type 0 where
    pub more : Tally
    pub counts : after ≡ plus before more
    pub stops : StopsAmong options lead contents writes_failed reports reports_failed task
        (left_after before.refused options.reports) number all at_end ended more o p u v stop

  -- why the lines in what a line has and more bytes were not gone over
  abbrev pub StopsPassing : List ℕ → Progress → Progress → List ℕ → W → W → E → E → Stop → Type 0
  StopsPassing bytes a b line o p u v stop =
      StopsWithin a.number (lines_of_input (line ++ bytes)) (false ≡ true) 0 a.tally b.tally
      o p u v stop

  -- one line has ended, and the next one begun
  pub record EndsLine (a b : Progress) (line : List ℕ) (o p : W) (u v : E) : Type 0 where
    pub keeps : Keeps b []
    pub over : GoesThrough (line ∷ []) (standing a line) (standing b []) o p u v

  -- why the run stopped at a line of that number
  abbrev pub StopsEnding : ℕ → List ℕ → Tally → Tally → W → W → E → E → Stop → Type 0
  StopsEnding number line before after o p u v stop =
      StopsWithin number (line ∷ []) ⊤ 0 before after o p u v stop
