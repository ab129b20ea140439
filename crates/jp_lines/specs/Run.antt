-- What is said of going over the lines of an input, and what a run says with its answer.
use Rattle.std.specs.Prelude.{◌≡◌, ◌≢◌, ◌⊎◌, ⊤, ℕ, ◌+◌, ◌≤◌, Bool, true, false, List, [], ◌∷◌, ◌++◌}
use Rattle.std.specs.Prelude.{length, Option, Result, Ok, Err}
use Rattle.std.specs.Io.KnownBytes.{Keeps}
use Rattle.jp_command.specs.Limits.{document_limit}
use Rattle.jp_command.specs.Output.{AppendsPrefix, WritesAll}
use Rattle.jp_command.specs.declared.fault.Fault.TheVariants.{Query, NoMemory, Read, Write}
use Rattle.jp_lines.specs.Lines.{lines_of_input}
use Rattle.jp_lines.specs.Outcome.{LineOutcome, Answered, Refused, ComesTo, ComeTo}
use Rattle.jp_lines.specs.Outcome.{refusals, tally_of, told_of_all, written_of_all}
use Rattle.jp_lines.specs.Reads.{HasRead, ReadsToEnd, ReadsToFailure}
use Rattle.jp_lines.specs.Request.{IsTaskOf, RefusesRequest, Request}
use Rattle.jp_lines.specs.Task.{Task}
use Rattle.jp_lines.specs.Told.{Tells}
use Rattle.jp_lines.specs.declared.defect.Defect.TheVariants.{TooLarge}
use Rattle.jp_lines.specs.declared.defect.RefusedLine.{RefusedLine}
use Rattle.jp_lines.specs.declared.options.Options.{Options}
use Rattle.jp_lines.specs.declared.stop.Stop.{Stop}
use Rattle.jp_lines.specs.declared.stop.Stop.TheVariants.{Run, Line}
use Rattle.jp_lines.specs.declared.tally.Tally.{Tally}

-- The reports of an input begin with that lead. o and p are the output before and after, u and v what
-- takes the reports.
module _ (options : Options) (lead : List ℕ) {W E : Type 0} (contents : W → Option (List ℕ))
    (writes_failed : W → Bool) (reports : E → Option (List ℕ)) (reports_failed : E → Bool) where
  -- The lines, numbered from there on, came to these outcomes: what is to be written of them is
  -- written; of those that are refused, `most` at most are told, and nothing where there are none; and
  -- a line is refused only where the run is to go on.
  pub record Goes (task : Task) (most : Option ℕ) (number : ℕ) (lines : List (List ℕ))
      (outcomes : List LineOutcome) (o p : W) (u v : E) : Type 0 where
    pub come : ComeTo options task number lines outcomes
    pub writes : WritesAll contents writes_failed o p (written_of_all outcomes)
    pub tells : Tells reports reports_failed u v (told_of_all lead most outcomes)
    pub allowed : refusals outcomes ≢ [] → options.keep_going ≡ true
    pub quiet : refusals outcomes ≡ [] → v ≡ u

  -- The first of all these lines, which has that number, is a whole one and answered, and of what is
  -- to be written of it a prefix is.
  pub record WritesInPart (task : Task) (number : ℕ) (all : List (List ℕ)) (at_end : Type 0)
      (o p : W) : Type 0 where
    pub line : List ℕ
    pub rest : List (List ℕ)
    pub first : all ≡ line ∷ rest
    pub complete : (rest ≢ []) ⊎ at_end
    pub selected : ℕ
    pub output : List ℕ
    pub comes : ComesTo options task number line (Answered selected output)
    pub writes : AppendsPrefix (contents o) (contents p) output

  -- Among all these lines, some at the front, which are whole, came to outcomes, which count that.
  -- Behind them nothing is told, and nothing is written, or the next line in part. Those that had ended
  -- before the last read, so many as `ended`, are at the front.
  pub record GoesInPart (task : Task) (most : Option ℕ) (number : ℕ) (all : List (List ℕ))
      (at_end : Type 0) (ended : ℕ) (tally : Tally) (o p : W) (u v : E) : Type 0 where
    pub lines : List (List ℕ)
    pub rest : List (List ℕ)
    pub front : all ≡ lines ++ rest
    pub complete : (rest ≢ []) ⊎ at_end
    pub outcomes : List LineOutcome
    pub between : W
    pub goes : Goes task most number lines outcomes o between u v
    pub counts : tally ≡ tally_of outcomes
    pub answered : ended ≤ length lines
    pub next : Keeps (contents between) (contents p)
        ⊎ WritesInPart task (number + length lines) rest at_end between p

  -- Among all these lines, the first that is no document is refused with r, and the ones before it
  -- are answered, and count that. It had not ended before the last read. Where it is the last line that
  -- came, it is the whole line, or has more bytes than a document may have.
  pub record GoesToRefusal (task : Task) (most : Option ℕ) (number : ℕ) (all : List (List ℕ))
      (at_end : Type 0) (ended : ℕ) (r : RefusedLine) (tally : Tally) (o p : W) (u v : E)
      : Type 0 where
    pub lines : List (List ℕ)
    pub line : List ℕ
    pub rest : List (List ℕ)
    pub split : all ≡ lines ++ line ∷ rest
    pub outcomes : List LineOutcome
    pub goes : Goes task most number lines outcomes o p u v
    pub counts : tally ≡ tally_of outcomes
    pub unrefused : refusals outcomes ≡ []
    pub comes : ComesTo options task (number + length lines) line (Refused r)
    pub complete : (rest ≢ []) ⊎ at_end ⊎ (r.defect ≡ TooLarge)
    pub answered : ended ≤ length lines
    pub stops : options.keep_going ≡ false

  -- Why the lines, all of these, numbered from there on, were not gone through to the end: one of
  -- them is refused, memory ran out, or a write failed. at_end says that the last of them is whole,
  -- and `ended` how many had ended before the last read. Those before count that.
  abbrev pub StopsAmong : Task → Option ℕ → ℕ → List (List ℕ) → Type 0 → ℕ → Tally → W → W → E → E
      → Stop → Type 0
  StopsAmong task most number all at_end ended tally o p u v (Line r) =
      GoesToRefusal task most number all at_end ended r tally o p u v
  StopsAmong task most number all at_end ended tally o p u v (Run NoMemory) =
      GoesInPart task most number all at_end ended tally o p u v
      × (writes_failed p ≡ writes_failed o)
  StopsAmong task most number all at_end ended tally o p u v (Run Write) =
      GoesInPart task most number all at_end ended tally o p u v × (writes_failed p ≡ true)
  StopsAmong task most number all at_end ended tally o p u v (Run _) = ⊥

-- i and j are the input before and after
module _ (options : Options) (lead : List ℕ) {R W E : Type 0}
    (remaining : R → Option (List ℕ)) (has_failed : R → Bool)
    (read_gives : R → Option (List ℕ) → R → Type 0) (contents : W → Option (List ℕ))
    (writes_failed : W → Bool) (reports : E → Option (List ℕ)) (reports_failed : E → Bool)
    (task : Task) (i j : R) (o p : W) (u v : E) (tally : Tally) where
  -- the input was read to its end, and all its lines came to outcomes, which count that
  pub record GoesToEnd : Type 0 where
    pub bytes : List ℕ
    pub reads : ReadsToEnd remaining has_failed read_gives i j bytes
    pub outcomes : List LineOutcome
    pub goes : Goes options lead contents writes_failed reports reports_failed task options.reports 1
        (lines_of_input bytes) outcomes o p u v
    pub counts : tally ≡ tally_of outcomes

  -- a read failed, and what came before it but for its last line, which had not ended nor grown too
  -- large for a run that does not go on, came to outcomes, which count that
  pub record FailsAtRead : Type 0 where
    pub bytes : List ℕ
    pub reads : ReadsToFailure remaining has_failed read_gives i j bytes
    pub lines : List (List ℕ)
    pub last : List ℕ
    pub split : lines_of_input bytes ≡ lines ++ last ∷ []
    pub few : options.keep_going ≡ false → length last ≤ document_limit
    pub outcomes : List LineOutcome
    pub goes : Goes options lead contents writes_failed reports reports_failed task options.reports 1
        lines outcomes o p u v
    pub counts : tally ≡ tally_of outcomes

  -- Among the lines of what was read the run stopped, at none of those that had ended before the last
  -- read. The line that had begun then had not grown too large for a run that does not go on. The last
  -- line is whole if the input had come to its end.
  pub record StopsAtLine (stop : Stop) : Type 0 where
    pub before : List ℕ
    pub rest : List ℕ
    pub at_end : Bool
    pub reads : HasRead remaining has_failed read_gives i j before rest at_end
    pub ended : List (List ℕ)
    pub begun : List ℕ
    pub split : lines_of_input before ≡ ended ++ begun ∷ []
    pub few : options.keep_going ≡ false → length begun ≤ document_limit
    pub stops : StopsAmong options lead contents writes_failed reports reports_failed task
        options.reports 1 (lines_of_input (before ++ rest)) (at_end ≡ true) (length ended) tally
        o p u v stop

  -- What is said of going over an input with a task: all its lines are counted, or those before the
  -- stop. No query is refused any more.
  abbrev pub GoesOver : Result ⊤ Stop → Type 0
  GoesOver (Ok done) = GoesToEnd
  GoesOver (Err (Line r)) = StopsAtLine (Line r)
  GoesOver (Err (Run NoMemory)) = StopsAtLine (Run NoMemory)
  GoesOver (Err (Run Read)) = FailsAtRead
  GoesOver (Err (Run Write)) = StopsAtLine (Run Write)
  GoesOver (Err (Run _)) = ⊥

module _ (options : Options) {R W E : Type 0} (remaining : R → Option (List ℕ)) (has_failed : R → Bool)
    (read_gives : R → Option (List ℕ) → R → Type 0) (contents : W → Option (List ℕ))
    (writes_failed : W → Bool) (reports : E → Option (List ℕ)) (reports_failed : E → Bool) where
  -- the task is asked, and the input was gone over with it, which counts that and ended so
  pub record GoesAsAsked (request : Request) (i j : R) (o p : W) (u v : E) (tally : Tally)
      (end : Result ⊤ Stop) : Type 0 where
    pub task : Task
    pub asked : IsTaskOf options.profile request task
    pub goes : GoesOver options [] remaining has_failed read_gives contents writes_failed reports
        reports_failed task i j o p u v tally end

  -- some lines are counted, and the run stopped so
  abbrev pub StopsRunning : Request → R → R → W → W → E → E → Stop → Type 0
  StopsRunning request i j o p u v stop =
      (tally : Tally) × GoesAsAsked request i j o p u v tally (Err stop)

  -- what a run over one input says with its answer
  abbrev pub RunsLines : Request → R → R → W → W → E → E → Result Tally Stop → Type 0
  RunsLines request i j o p u v (Ok tally) = GoesAsAsked request i j o p u v tally (Ok tt)
  RunsLines request i j o p u v (Err (Run (Query r))) =
      RefusesRequest options.profile request r × (j ≡ i) × (p ≡ o) × (v ≡ u)
  RunsLines request i j o p u v (Err (Run NoMemory)) =
      ((j ≡ i) × (p ≡ o) × (v ≡ u)) ⊎ StopsRunning request i j o p u v (Run NoMemory)
  RunsLines request i j o p u v (Err stop) = StopsRunning request i j o p u v stop
