-- What the program says with its status: the status and the line of each stop, and `RunsProgram`,
-- which the clause of `run_program` cites.
use Rattle.std.specs.Prelude.{◌≡◌, ◌⊎◌, ⊤, ℕ, ◌==◌, Bool, true, false, [], ◌&&◌, List}
use Rattle.std.specs.Prelude.{Option, Some, None, Result, Ok, Err, if◌then◌else◌, nat_lt, string_bytes}
use Rattle.std.specs.Io.KnownBytes.{Keeps}
use Rattle.jp_check.specs.declared.profile.Profile.{Profile}
use Rattle.jp_command.specs.Help.{AreNoCommand, AsksToShow}
use Rattle.jp_command.specs.Line.{TellsExplained, TellsExpression, fault_line, fault_text, status_of}
use Rattle.jp_command.specs.Output.{AppendsPrefix, AppendsSome, WritesAll}
use Rattle.jp_command.specs.Run.{RefusesQuery}
use Rattle.jp_command.specs.Written.{StopsWriting}
use Rattle.jp_command.specs.declared.fault.Fault.{Fault}
use Rattle.jp_command.specs.declared.fault.Fault.TheVariants.{NoMemory, Query, Write}
use Rattle.jp_query.specs.declared.refusal.Refusal.{Refusal}
use Rattle.jp_lines.specs.Closing.{asks_closing, closing_text}
use Rattle.jp_lines.specs.CommandLine.{asked, jp_lines}
use Rattle.jp_lines.specs.Expression.{RefusesFilter}
use Rattle.jp_lines.specs.Inputs.{RunsOver, unread_line}
use Rattle.jp_lines.specs.Names.{begin_of}
use Rattle.jp_lines.specs.Outcome.{refused_text, told_of}
use Rattle.jp_lines.specs.Request.{ColumnsBy, IsTaskOf, Job, KeepBy, RefusesFirst, Request, SelectBy}
use Rattle.jp_lines.specs.Task.{Task}
use Rattle.jp_lines.specs.Told.{Tells}
use Rattle.jp_lines.specs.declared.halt.Ended.{Ended}
use Rattle.jp_lines.specs.declared.halt.Halt.{Halt}
use Rattle.jp_lines.specs.declared.halt.Halt.TheVariants as halt
use Rattle.jp_lines.specs.declared.halt.Passed.{Passed}
use Rattle.jp_lines.specs.declared.halt.Unbegun.{Unbegun}
use Rattle.jp_lines.specs.declared.halt.Unbegun.TheVariants as unbegun
use Rattle.jp_lines.specs.declared.inputs.Unopened.{Unopened}
use Rattle.jp_lines.specs.declared.options.Options.{Options}
use Rattle.jp_lines.specs.declared.stop.Stop.{Stop}
use Rattle.jp_lines.specs.declared.stop.Stop.TheVariants.{Run, Line}

-- ---- lines and statuses

-- what is said of a stop
abbrev pub stop_text : Stop → List ℕ
stop_text (Line refused) = refused_text refused
stop_text (Run fault) = fault_text fault

-- the line of what ended a run, which a newline ends, and behind that of a line that is refused what
-- explains it
abbrev pub halt_line : Halt → List ℕ
halt_line (halt.Line lead refused) = told_of (string_bytes lead) refused
halt_line (halt.Input lead why) = unread_line (string_bytes lead) why
halt_line (halt.Fault fault) = fault_line fault

-- its status
abbrev pub status_of_halt : Halt → ℕ
status_of_halt (halt.Line lead refused) = 3
status_of_halt (halt.Input lead why) = 5
status_of_halt (halt.Fault fault) = status_of fault

-- the line of what keeps a run from its beginning
abbrev pub unbegun_line : Unbegun → List ℕ
unbegun_line (unbegun.Query text r) = fault_line (Query r)
unbegun_line (unbegun.Expression text r) = fault_line (Query r)
unbegun_line (unbegun.Fault fault) = fault_line fault

-- its status
abbrev pub status_of_unbegun : Unbegun → ℕ
status_of_unbegun (unbegun.Query text r) = 1
status_of_unbegun (unbegun.Expression text r) = 1
status_of_unbegun (unbegun.Fault fault) = status_of fault

-- The status of a run over all inputs: some could not be read to their ends; or some lines are refused;
-- or, where the status is to tell it, nothing is selected in any.
abbrev pub status_of_passed : Options → Passed → ℕ
status_of_passed options passed = if passed.unread then 5
    else if nat_lt 0 passed.tally.refused then 3
    else if options.exit_status && passed.tally.selected == 0 then 6 else 0

-- the status of a run that began
abbrev pub status_of_end : Options → Passed → Result ⊤ Halt → ℕ
status_of_end options passed (Ok done) = status_of_passed options passed
status_of_end options passed (Err why) = status_of_halt why

-- ---- words

-- they are no command, and ask neither for help nor for the version
abbrev pub AreRefused : List (List ℕ) → Type 0
AreRefused words = (asked words ≡ None) × AreNoCommand jp_lines words

-- ---- what is told

-- u and v are what takes reports, before and after
module _ {E : Type 0} (reports : E → Option (List ℕ)) (reports_failed : E → Bool) where
  -- a prefix of the line is told, and nothing where a write had failed before
  pub record TellsLine (line : List ℕ) (u v : E) : Type 0 where
    pub prefix : AppendsPrefix (reports u) (reports v) line
    pub silent : reports_failed u ≡ true → v ≡ u

  -- the same of the line of a refused query with an explanation behind it
  pub record TellsRefusal (profile : Profile) (query : List ℕ) (r : Refusal) (u v : E) : Type 0 where
    pub prefix : TellsExplained profile query r (reports u) (reports v)
    pub silent : reports_failed u ≡ true → v ≡ u

  -- the same of a refused expression
  pub record TellsRefusedExpression (profile : Profile) (expression : List ℕ) (r : Refusal) (u v : E)
      : Type 0 where
    pub prefix : TellsExpression profile expression r (reports u) (reports v)
    pub silent : reports_failed u ≡ true → v ≡ u

  -- the same of a write that failed, but nothing where what reads the output hung up
  abbrev pub TellsWriteFault : Bool → E → E → Type 0
  TellsWriteFault hung_up u v = ((hung_up ≡ true) × (v ≡ u))
      ⊎ ((hung_up ≡ false) × TellsLine (fault_line Write) u v)

  -- why a run did not begin: behind the line of a refused query or expression stands an explanation, unless
  -- memory ran out for it
  abbrev pub TellsUnbegun : Profile → Unbegun → Bool → E → E → Type 0
  TellsUnbegun profile (unbegun.Query text r) hung_up u v =
      TellsLine (fault_line (Query r)) u v ⊎ TellsRefusal profile text.now r u v
  TellsUnbegun profile (unbegun.Expression text r) hung_up u v =
      TellsLine (fault_line (Query r)) u v ⊎ TellsRefusedExpression profile text.now r u v
  TellsUnbegun profile (unbegun.Fault Write) hung_up u v = TellsWriteFault hung_up u v
  TellsUnbegun profile (unbegun.Fault fault) hung_up u v = TellsLine (fault_line fault) u v

  -- what ended a run before the end of its last input, where something did
  abbrev pub TellsEnd : Result ⊤ Halt → E → E → Type 0
  TellsEnd (Ok done) u v = v ≡ u
  TellsEnd (Err why) u v = TellsLine (halt_line why) u v

  -- What is told of a run that began, whose output is hung up or not, and the status. Where a write
  -- failed because what reads the output hung up, nothing is told. Else it is told what ended the run, and
  -- behind that what is asked for at the end; or that memory ran out for that.
  pub data Closes (options : Options) (request : Request) (ended : Ended) (hung_up : Bool) (u v : E)
      (status : ℕ) : Type 0 where
    unheard : ended.end ≡ Err (halt.Fault Write) → hung_up ≡ true → status ≡ 5 → v ≡ u
        → Closes options request ended hung_up u v status
    told : (between : E) → (ended.end ≡ Err (halt.Fault Write) → hung_up ≡ false)
        → status ≡ status_of_end options ended.passed ended.end → TellsEnd ended.end u between
        → Tells reports reports_failed between v
        (closing_text options request ended.passed.tally ended.end)
        → Closes options request ended hung_up u v status
    untold : (between : E) → (ended.end ≡ Err (halt.Fault Write) → hung_up ≡ false)
        → asks_closing options ≡ true → status ≡ 4 → TellsEnd ended.end u between
        → TellsLine (fault_line NoMemory) between v
        → Closes options request ended hung_up u v status

-- ---- runs

-- how the query or the expression of what is asked is refused: of several queries, as the first that is
-- not accepted
abbrev pub IsRefusedAs : Profile → Request → Unbegun → Type 0
IsRefusedAs profile (SelectBy wanted extent query) (unbegun.Query text r) =
    (text.now ≡ query) × RefusesQuery profile query r
IsRefusedAs profile (KeepBy expression) (unbegun.Expression text r) =
    (text.now ≡ expression) × RefusesFilter profile expression r
IsRefusedAs profile (ColumnsBy style named queries) (unbegun.Query text r) =
    RefusesFirst profile queries r text.now
IsRefusedAs _ _ _ = ⊥

-- The output before and after a run's end. Unless a write that failed is what ended the run, it is
-- flushed, and then holds nothing back; and a flush that fails is what ended the run.
pub data Flushes {W : Type 0} (contents : W → Option (List ℕ)) (has_failed : W → Bool)
    (write_takes : W → Option (List ℕ) → W → Type 0) (holds_back : W → Bool) (o p : W)
    (end given : Result ⊤ Halt) : Type 0
  where
    unflushed : end ≡ Err (halt.Fault Write) → p ≡ o → given ≡ end
        → Flushes contents has_failed write_takes holds_back o p end given
    flushed : has_failed p ≡ has_failed o → holds_back p ≡ false → Keeps (contents o) (contents p)
        → write_takes o (Some []) p → given ≡ end
        → Flushes contents has_failed write_takes holds_back o p end given
    failed : has_failed p ≡ true → Keeps (contents o) (contents p) → write_takes o None p
        → given ≡ Err (halt.Fault Write)
        → Flushes contents has_failed write_takes holds_back o p end given

-- a and b is what opens inputs before and after, o and p the output, u and v what takes reports
module _ {I R W E : Type 0} (opens : I → List ℕ → Result R Unopened → I → Type 0)
    (remaining : R → Option (List ℕ)) (has_failed : R → Bool)
    (read_gives : R → Option (List ℕ) → R → Type 0) (contents : W → Option (List ℕ))
    (writes_failed : W → Bool) (write_takes : W → Option (List ℕ) → W → Type 0)
    (holds_back : W → Bool) (reports : E → Option (List ℕ)) (reports_failed : E → Bool) where
  -- what the run writes first is written, it went over its inputs, and its output is flushed
  pub record RunsWhole (options : Options) (request : Request) (named : List (List ℕ)) (task : Task)
      (a b : I) (o p : W) (u v : E) (ended : Ended) : Type 0 where
    pub begun : W
    pub gone : W
    pub begins : WritesAll contents writes_failed o begun (begin_of options request)
    pub end : Result ⊤ Halt
    pub runs : RunsOver options named opens remaining has_failed read_gives contents writes_failed
        reports reports_failed task a b begun gone u v ended.passed end
    pub flushes : Flushes contents writes_failed write_takes holds_back gone p end ended.end

  -- What a run says. Where a query is refused, or memory ran out before all are read, nothing is
  -- written; where they are accepted and it can't begin, what it begins with is written in part. Neither
  -- opens an input.
  pub data RunsJob (job : Job) (a b : I) (o p : W) (u v : E) (answer : Result Ended Unbegun) : Type 0
    where
      begun : (task : Task) (ended : Ended) → answer ≡ Ok ended
          → IsTaskOf job.options.profile job.request task
          → RunsWhole job.options job.request job.inputs task a b o p u v ended
          → RunsJob job a b o p u v answer
      refused : (why : Unbegun) → answer ≡ Err why → IsRefusedAs job.options.profile job.request why
          → b ≡ a → p ≡ o → v ≡ u → RunsJob job a b o p u v answer
      exhausted : answer ≡ Err (unbegun.Fault NoMemory) → b ≡ a → p ≡ o → v ≡ u
          → RunsJob job a b o p u v answer
      not_begun : (task : Task) (fault : Fault) → answer ≡ Err (unbegun.Fault fault)
          → IsTaskOf job.options.profile job.request task
          → StopsWriting contents writes_failed o p (begin_of job.options job.request) fault
          → b ≡ a → v ≡ u → RunsJob job a b o p u v answer

  -- the run that the words ask for ended with this answer
  pub record RunEnds (words : List (List ℕ)) (a b : I) (o p : W) (u v : E)
      (answer : Result Ended Unbegun) : Type 0 where
    pub job : Job
    pub asks : asked words ≡ Some job
    pub runs : RunsJob job a b o p u v answer

  -- `hung_up` tells of the output whether what reads it hung up
  module _ (hung_up : W → Bool) where
    -- What is said with a status. Where the words are not ones that the command line takes, clap's text is
    -- told, of which its contract says nothing; the one of help and of the version is written, and then
    -- nothing of it is held back. Where a write failed because what reads the output hung up, nothing is told of that.
    pub data RunsProgram (words : List (List ℕ)) (a b : I) (o p : W) (u v : E) (status : ℕ) : Type 0
      where
        ended : (ended : Ended) (between : E) → (run : RunEnds words a b o p u between (Ok ended))
            → Closes reports reports_failed run.job.options run.job.request ended (hung_up p) between v
            status → RunsProgram words a b o p u v status
        not_begun : (why : Unbegun) → (run : RunEnds words a b o p u u (Err why))
            → status ≡ status_of_unbegun why
            → TellsUnbegun reports reports_failed run.job.options.profile why (hung_up p) u v
            → RunsProgram words a b o p u v status
        shown : status ≡ 0 → AsksToShow jp_lines words → b ≡ a → v ≡ u → AppendsSome (contents o) (contents p)
            → writes_failed p ≡ writes_failed o → holds_back p ≡ false
            → RunsProgram words a b o p u v status
        shown_in_part : status ≡ 5 → AsksToShow jp_lines words → b ≡ a → AppendsSome (contents o) (contents p)
            → writes_failed p ≡ true → TellsWriteFault reports reports_failed (hung_up p) u v
            → RunsProgram words a b o p u v status
        usage : status ≡ 2 → AreRefused words → b ≡ a → p ≡ o
            → AppendsSome (reports u) (reports v) → RunsProgram words a b o p u v status
        memory : status ≡ 4 → b ≡ a → p ≡ o
            → AppendsPrefix (reports u) (reports v) (fault_line NoMemory)
            → RunsProgram words a b o p u v status
