-- Going over one input, and the next. The clauses of `pass_next` and of what it calls cite it.
use Rattle.std.specs.Prelude.{◌≡◌, ◌⊎◌, ⊤, ℕ, Bool, false, ◌||◌, List, [], Option, Result, Ok, Err}
use Rattle.std.specs.Prelude.{string_bytes}
use Rattle.jp_command.specs.declared.fault.Fault.TheVariants as fault
use Rattle.jp_lines.specs.Inputs.{HaltsAt, PassesInput, lead_of_input}
use Rattle.jp_lines.specs.Outcome.{left_after, plus, tally_of}
use Rattle.jp_lines.specs.Run.{GoesOver}
use Rattle.jp_lines.specs.Task.{Task}
use Rattle.jp_lines.specs.declared.halt.Halt.{Halt}
use Rattle.jp_lines.specs.declared.halt.Halt.TheVariants as halt
use Rattle.jp_lines.specs.declared.halt.Passed.{Passed}
use Rattle.jp_lines.specs.declared.halt.Unread.{Unread}
use Rattle.jp_lines.specs.declared.halt.Unread.TheVariants as unread
use Rattle.jp_lines.specs.declared.inputs.Unopened.{Unopened}
use Rattle.jp_lines.specs.declared.opening.Cut.{Cut}
use Rattle.jp_lines.specs.declared.opening.Cut.TheVariants as cut
use Rattle.jp_lines.specs.declared.options.Options.{Options}
use Rattle.jp_lines.specs.declared.stop.Stop.{Stop}
use Rattle.jp_lines.specs.declared.stop.Stop.TheVariants.{Line, Run}
use Rattle.jp_lines.specs.declared.tally.Tally.{Tally}

-- how going over an input ended, where a read that failed is no fault of the run
abbrev pub cut_of : Result ⊤ Stop → Result ⊤ Cut
cut_of (Ok done) = Ok done
cut_of (Err (Line r)) = Err (cut.Line r)
cut_of (Err (Run fault.Read)) = Err (cut.Input unread.Failed)
cut_of (Err (Run other)) = Err (cut.Fault other)

-- nothing has come of the run
pub record IsAtStart (passed : Passed) : Type 0 where
  pub tally : passed.tally ≡ tally_of []
  pub unread : passed.unread ≡ false

-- why a run does not go on after an input that was not read to its end for that reason: it is not to, or
-- memory ran out
abbrev pub StopsLeaving : Options → List (List ℕ) → List ℕ → Unread → Halt → Type 0
StopsLeaving options named name why (halt.Input lead other) =
    ((options.keep_going ≡ false) ⊎ (named ≡ []))
    × (string_bytes lead ≡ lead_of_input named name) × (other ≡ why)
StopsLeaving options named name why (halt.Fault fault.NoMemory) = ⊤
StopsLeaving options named name why _ = ⊥

-- a and b is what opens inputs before and after, o and p the output, u and v what takes the reports
module _ (options : Options) {I R W E : Type 0}
    (opens : I → List ℕ → Result R Unopened → I → Type 0) (remaining : R → Option (List ℕ))
    (has_failed : R → Bool) (read_gives : R → Option (List ℕ) → R → Type 0)
    (contents : W → Option (List ℕ)) (writes_failed : W → Bool) (reports : E → Option (List ℕ))
    (reports_failed : E → Bool) (task : Task) (name : List ℕ) (a b : I) (o p : W) (u v : E) where
  -- the input of that name, whose lines' reports begin with that lead, was opened and gone over, or can't
  -- be opened; what it counts, and how that ended
  pub data PassesOne (lead : List ℕ) (tally : Tally) (given : Result ⊤ Cut) : Type 0 where
    opened : (i j : R) (end : Result ⊤ Stop) → opens a name (Ok i) b
        → GoesOver options lead remaining has_failed read_gives contents writes_failed reports
        reports_failed task i j o p u v tally end → given ≡ cut_of end → PassesOne lead tally given
    unopened : (why : Unopened) → opens a name (Err why) b → p ≡ o → v ≡ u → tally ≡ tally_of []
        → given ≡ Err (cut.Input (unread.Unopened why)) → PassesOne lead tally given

  module _ (named : List (List ℕ)) (before after : Passed) where
    -- the run went on after it, which the run has come to with it
    pub record PassesNext : Type 0 where
      pub more : Tally
      pub this : Bool
      pub passes : PassesInput options named opens remaining has_failed read_gives contents
          writes_failed reports reports_failed task
          (left_after before.tally.refused options.reports) name a b o p u v more this
      pub tally : after.tally ≡ plus before.tally more
      pub unread : after.unread ≡ before.unread || this

    -- the run ended at it
    pub record HaltsNext (why : Halt) : Type 0 where
      pub more : Tally
      pub halts : HaltsAt options named opens remaining has_failed read_gives contents
          writes_failed reports reports_failed task before.tally
          (left_after before.tally.refused options.reports) name a b o p u v more why
      pub tally : after.tally ≡ plus before.tally more
      pub unread : after.unread ≡ before.unread
