-- The inputs of a run, which goes over them in order: what each comes to, and how the run ends.
use Rattle.std.specs.Prelude.{◌≡◌, ◌≢◌, ◌⊎◌, ⊤, ℕ, Bool, true, false, ◌||◌, List, [], ◌∷◌, ◌++◌, codes}
use Rattle.std.specs.Prelude.{Option, Result, Ok, Err, string_bytes}
use Rattle.jp_command.specs.declared.fault.Fault.TheVariants.{NoMemory, Read, Write}
use Rattle.jp_lines.specs.Outcome.{Overflows, left_after, plus, tally_of}
use Rattle.jp_lines.specs.Run.{GoesOver}
use Rattle.jp_lines.specs.Task.{Task}
use Rattle.jp_lines.specs.Told.{Tells}
use Rattle.jp_lines.specs.declared.halt.Halt.{Halt}
use Rattle.jp_lines.specs.declared.halt.Halt.TheVariants as halt
use Rattle.jp_lines.specs.declared.halt.Passed.{Passed}
use Rattle.jp_lines.specs.declared.halt.Unread.{Unread}
use Rattle.jp_lines.specs.declared.halt.Unread.TheVariants as unread
use Rattle.jp_lines.specs.declared.inputs.Unopened.{Unopened}
use Rattle.jp_lines.specs.declared.inputs.Unopened.TheVariants.{Failed, Missing, NotPermitted}
use Rattle.jp_lines.specs.declared.options.Options.{Options}
use Rattle.jp_lines.specs.declared.stop.Stop.{Stop}
use Rattle.jp_lines.specs.declared.stop.Stop.TheVariants.{Line, Run}
use Rattle.jp_lines.specs.declared.tally.Tally.{Tally}

-- ---- names and texts

-- the name of the standard input
abbrev pub standard_input : List ℕ
standard_input = codes "-"

-- the inputs of a run that names these: where it names none, the standard input alone
abbrev pub inputs_of : List (List ℕ) → List (List ℕ)
inputs_of [] = standard_input ∷ []
inputs_of (name ∷ names) = name ∷ names

-- what stands before a report of the input of that name
abbrev pub name_before : List ℕ → List ℕ
name_before name = name ++ codes ": "

-- what the reports of an input's lines begin with: its name, where several are named
abbrev pub lead_of_lines : List (List ℕ) → List ℕ → List ℕ
lead_of_lines [] name = []
lead_of_lines (only ∷ []) name = []
lead_of_lines (first ∷ (second ∷ names)) name = name_before name

-- what the report of an input that is not read begins with: its name, where it was named
abbrev pub lead_of_input : List (List ℕ) → List ℕ → List ℕ
lead_of_input [] name = []
lead_of_input (first ∷ names) name = name_before name

-- why an input was not read to its end
abbrev pub unread_text : Unread → List ℕ
unread_text (unread.Unopened Missing) = codes "no such file"
unread_text (unread.Unopened NotPermitted) = codes "not permitted"
unread_text (unread.Unopened Failed) = codes "open fault"
unread_text unread.Failed = codes "read fault"

-- the line that tells it
abbrev pub unread_line : List ℕ → Unread → List ℕ
unread_line lead why = lead ++ (unread_text why ++ codes "\n")

-- ---- inputs

-- A run with that task names these inputs. a and b is what opens inputs before and after, o and p the
-- output, u and v what takes the reports.
module _ (options : Options) (named : List (List ℕ)) {I R W E : Type 0}
    (opens : I → List ℕ → Result R Unopened → I → Type 0) (remaining : R → Option (List ℕ))
    (has_failed : R → Bool) (read_gives : R → Option (List ℕ) → R → Type 0)
    (contents : W → Option (List ℕ)) (writes_failed : W → Bool) (reports : E → Option (List ℕ))
    (reports_failed : E → Bool) (task : Task) where
  -- the input of that name was opened and gone over, of whose refused lines `most` at most are told; it
  -- counts that, and ended so
  pub record GoesOverInput (most : Option ℕ) (name : List ℕ) (a b : I) (o p : W) (u v : E)
      (tally : Tally) (end : Result ⊤ Stop) : Type 0 where
    pub i : R
    pub j : R
    pub opened : opens a name (Ok i) b
    pub goes : GoesOver (record options { reports = most }) (lead_of_lines named name) remaining
        has_failed read_gives contents writes_failed reports reports_failed task i j o p u v tally end

  -- the input of that name was not read to its end: it can't be opened, and nothing comes of it, or a
  -- read failed
  pub data LeavesUnread (most : Option ℕ) (name : List ℕ) (a b : I) (o p : W) (u v : E)
      (tally : Tally) : Unread → Type 0 where
    unopened : (why : Unopened) → opens a name (Err why) b → p ≡ o → v ≡ u → tally ≡ tally_of []
        → LeavesUnread most name a b o p u v tally (unread.Unopened why)
    unfinished : GoesOverInput most name a b o p u v tally (Err (Run Read))
        → LeavesUnread most name a b o p u v tally unread.Failed

  -- The run goes on after the input of that name: it was read to its end; or it was not, which is told
  -- where the run is to go on and its inputs are named. Whether it is such a one.
  pub data PassesInput (most : Option ℕ) (name : List ℕ) (a b : I) (o p : W) (u v : E)
      (tally : Tally) : Bool → Type 0 where
    whole : GoesOverInput most name a b o p u v tally (Ok tt)
        → PassesInput most name a b o p u v tally false
    in_part : (why : Unread) (between : E) → options.keep_going ≡ true → named ≢ []
        → LeavesUnread most name a b o p u between tally why
        → Tells reports reports_failed between v (unread_line (lead_of_input named name) why)
        → PassesInput most name a b o p u v tally true

  -- The run went over these inputs in order, from a, o and u on. They count that; whether some of them
  -- was not read to its end.
  pub data PassesInputs (a : I) (o : W) (u : E) : List (List ℕ) → I → W → E → Tally → Bool → Type 0
    where
      none : PassesInputs a o u [] a o u (tally_of []) false
      one_more : (names : List (List ℕ)) (name : List ℕ) (b c : I) (p q : W) (v w : E)
          (tally more : Tally) (unread this : Bool) → PassesInputs a o u names b p v tally unread
          → PassesInput (left_after tally.refused options.reports) name b c p q v w more this
          → PassesInputs a o u (names ++ name ∷ []) c q w (plus tally more) (unread || this)

  -- Memory ran out at the input of that name, where those before it count `counted`: before it was
  -- opened; or it was gone over, and what the inputs count with it does not fit 64 bits; or it could not
  -- be told that it was not read to its end.
  pub data RunsOut (counted : Tally) (most : Option ℕ) (name : List ℕ) (a b : I) (o p : W) (u v : E)
      (tally : Tally) : Type 0 where
    before : b ≡ a → p ≡ o → v ≡ u → tally ≡ tally_of []
        → RunsOut counted most name a b o p u v tally
    uncounted : (more : Tally) (end : Result ⊤ Stop)
        → GoesOverInput most name a b o p u v more end → Overflows (plus counted more)
        → tally ≡ tally_of [] → RunsOut counted most name a b o p u v tally
    untold : (why : Unread) → LeavesUnread most name a b o p u v tally why
        → RunsOut counted most name a b o p u v tally

  -- why the run ended at the input of that name, which counts that, where those before it count `counted`
  abbrev pub HaltsAt : Tally → Option ℕ → List ℕ → I → I → W → W → E → E → Tally → Halt → Type 0
  HaltsAt counted most name a b o p u v tally (halt.Line lead r) =
      (string_bytes lead ≡ lead_of_lines named name)
      × GoesOverInput most name a b o p u v tally (Err (Line r))
  HaltsAt counted most name a b o p u v tally (halt.Input lead why) =
      ((options.keep_going ≡ false) ⊎ (named ≡ []))
      × (string_bytes lead ≡ lead_of_input named name)
      × LeavesUnread most name a b o p u v tally why
  HaltsAt counted most name a b o p u v tally (halt.Fault NoMemory) =
      GoesOverInput most name a b o p u v tally (Err (Run NoMemory))
      ⊎ RunsOut counted most name a b o p u v tally
  HaltsAt counted most name a b o p u v tally (halt.Fault Write) =
      GoesOverInput most name a b o p u v tally (Err (Run Write))
  HaltsAt counted most name a b o p u v tally (halt.Fault _) = ⊥

  -- some of these inputs, at the front, were gone over, and the run ended at the next one; they count that
  pub record HaltsAmong (inputs : List (List ℕ)) (a b : I) (o p : W) (u v : E) (passed : Passed)
      (why : Halt) : Type 0 where
    pub before : List (List ℕ)
    pub name : List ℕ
    pub after : List (List ℕ)
    pub split : inputs ≡ before ++ name ∷ after
    pub c : I
    pub q : W
    pub w : E
    pub tally : Tally
    pub goes : PassesInputs a o u before c q w tally passed.unread
    pub more : Tally
    pub halts : HaltsAt tally (left_after tally.refused options.reports) name c b q p w v more why
    pub counts : passed.tally ≡ plus tally more

  -- how a run over all inputs ended, and what it has come to
  abbrev pub RunsOver : I → I → W → W → E → E → Passed → Result ⊤ Halt → Type 0
  RunsOver a b o p u v passed (Ok done) =
      PassesInputs a o u (inputs_of named) b p v passed.tally passed.unread
  RunsOver a b o p u v passed (Err why) = HaltsAmong (inputs_of named) a b o p u v passed why
