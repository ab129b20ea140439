-- What the program `jp` does, from its words to its status: what they ask for, and what is written
-- and told with each status. The headline is one of the sentences. Each is about the runs of which
-- `RunsLine` tells, as the contract of `run_line` says of every run of the program. A sentence with bytes
-- of the input in its premise, or of the output or of what takes reports in what it says, is about
-- streams that tell their bytes. The process's own tell none: of them it is said which calls were made,
-- in what order, and which of them failed.
use Rattle.std.specs.Prelude.{◌≡◌, ◌⊎◌, ℕ, ◌≤◌, Bool, true, false, List, [], length, Option, Some}
use Rattle.std.specs.Prelude.{None}
use Rattle.std.specs.Io.KnownBytes.{Appends}
use Rattle.jp_check.specs.Numbers.{numbers}
use Rattle.jp_check.specs.declared.profile.Profile.{Profile}
use Rattle.jp_document.specs.Exact.{IsDocumentIn}
use Rattle.jp_document.specs.Value.{Value}
use Rattle.jp_document.specs.declared.fault.DocumentFault.{DocumentFault}
use Rattle.jp_evaluate.specs.Nodelist.{nodelist}
use Rattle.jp_tree.specs.Tree.{QueryTree}
use Rattle.jp_query.specs.declared.refusal.Refusal.{Refusal}
use Rattle.jp_command.specs.NodeTask.{output_asked, status_done}
use Rattle.jp_command.specs.Canon.{canon_line}
use Rattle.jp_command.specs.Check.{accepted_line}
use Rattle.jp_command.specs.CommandLine.{asked, jp}
use Rattle.jp_command.specs.Help.{AreNoCommand, AsksToShow}
use Rattle.jp_command.specs.Headline.{Headline, IsAcceptedPair, Refuses, RefusesLarge, RefusesRead}
use Rattle.jp_command.specs.Input.{FailsToRead, ReadsAll}
use Rattle.jp_command.specs.Line.{IsWrittenBy, RunsLine, TellsExplained, TellsMisread, fault_line}
use Rattle.jp_command.specs.Line.{status_of_done}
use Rattle.jp_command.specs.Limits.{document_limit}
use Rattle.jp_command.specs.Output.{AppendsPrefix, AppendsSome}
use Rattle.jp_command.specs.Run.{IsAsked}
use Rattle.jp_command.specs.Writes.{GoByCalls, GoesToAFailure}
use Rattle.jp_command.specs.declared.fault.Fault.{Fault}
use Rattle.jp_command.specs.declared.fault.Fault.TheVariants.{Query, Document, DocumentTooLarge}
use Rattle.jp_command.specs.declared.fault.Fault.TheVariants.{NoMemory, Read, Write}
use Rattle.jp_command.specs.declared.node_task.NodeTask.{NodeTask}
use Rattle.jp_command.specs.declared.words.Task.{Task}
use Rattle.jp_command.specs.declared.words.Task.TheVariants.{Check, Canon, Eval}

-- the words ask for this task of this query, in this profile, and perhaps for explanations
abbrev pub AskFor : List (List ℕ) → Task → List ℕ → Profile → Bool → Type 0
AskFor words task text profile explains = asked words ≡ Some (task, text, profile, explains)

module _ {R W E : Type 0} (remaining : R → Option (List ℕ)) (has_failed : R → Bool)
    (read_gives : R → Option (List ℕ) → R → Type 0) (contents : W → Option (List ℕ))
    (writes_failed : W → Bool) (write_takes : W → Option (List ℕ) → W → Type 0)
    (holds_back : W → Bool) (reports : E → Option (List ℕ)) where
  -- a run of the program: its words and its status; the input before and after it, the output, and
  -- what takes the lines of faults
  pub record ProgramRun : Type 0 where
    pub words : List (List ℕ)
    pub status : ℕ
    pub i : R
    pub j : R
    pub o : W
    pub p : W
    pub u : E
    pub v : E
    pub says : RunsLine remaining has_failed read_gives contents writes_failed write_takes holds_back
        reports words i j o p u v status

  -- a prefix of the fault's line is told, and nothing else
  abbrev pub TellsLine : ProgramRun → Fault → Type 0
  TellsLine it f = AppendsPrefix (reports it.u) (reports it.v) (fault_line f)

  -- the text is written with this status, and nothing is told; or memory ran out or a stream failed, and
  -- a prefix of it is written
  pub data WritesText (it : ProgramRun) (status : ℕ) (text : List ℕ) : Type 0 where
    whole : it.status ≡ status → Appends (contents it.o) (contents it.p) text → it.v ≡ it.u
        → WritesText it status text
    in_part : (it.status ≡ 4) ⊎ (it.status ≡ 5)
        → AppendsPrefix (contents it.o) (contents it.p) text → WritesText it status text

  -- the text is asked as a query, and what the input tells is a document: the pair of them
  abbrev pub IsPair : Profile → List ℕ → ProgramRun → QueryTree → Value → Type 0
  IsPair profile text it =
      IsAcceptedPair profile remaining has_failed read_gives contents writes_failed text it.i

  -- the query that the words name is refused with r for what it is, and nothing is read or written;
  -- its line is told, where the words ask for it with an explanation
  pub record RefusesItsQuery (it : ProgramRun) : Type 0 where
    pub task : Task
    pub text : List ℕ
    pub profile : Profile
    pub explains : Bool
    pub r : Refusal
    pub asks : AskFor it.words task text profile explains
    pub refuses : Refuses profile remaining has_failed read_gives contents writes_failed text r
        it.i it.j it.o it.p
    pub tells : TellsLine it (Query r) ⊎ ((explains ≡ true)
        × TellsExplained profile text r (reports it.u) (reports it.v))

  -- the query that the words name is accepted, and the document is refused for what it is, or as too
  -- large; nothing is written, and its line is told, where the words ask for it with how it is
  -- misread
  pub data RefusesItsDocument (it : ProgramRun) : Type 0 where
    fault : (nodes : NodeTask) (text : List ℕ) (profile : Profile) (explains : Bool) (f : DocumentFault)
        → AskFor it.words (Eval nodes) text profile explains
        → (refuses : RefusesRead profile remaining has_failed read_gives contents writes_failed
        text f it.i it.j it.o it.p)
        → TellsLine it (Document f) ⊎ ((explains ≡ true)
        × TellsMisread profile refuses.0.bytes (Document f) (reports it.u) (reports it.v))
        → RefusesItsDocument it
    large : (nodes : NodeTask) (text : List ℕ) (profile : Profile) (explains : Bool)
        → AskFor it.words (Eval nodes) text profile explains
        → RefusesLarge profile remaining has_failed read_gives contents writes_failed text
        it.i it.j it.o it.p
        → TellsLine it DocumentTooLarge
        → RefusesItsDocument it

  -- the words ask for nothing; nothing is read or written, and some text tells so
  abbrev pub RefusesItsWords : ProgramRun → Type 0
  RefusesItsWords it = (asked it.words ≡ None) × AreNoCommand jp it.words × (it.j ≡ it.i)
      × (it.p ≡ it.o) × AppendsSome (reports it.u) (reports it.v)

  -- the words ask for help or for the version; nothing is read, some text went to its end, by calls of
  -- which none failed, and nothing of it is held back; and nothing is told
  pub record ShowsItsHelp (it : ProgramRun) : Type 0 where
    pub asks : AsksToShow jp it.words
    pub unread : it.j ≡ it.i
    pub text : List ℕ
    pub written : Appends (contents it.o) (contents it.p) text
    pub goes : GoByCalls write_takes it.o it.p text
    pub works : writes_failed it.p ≡ writes_failed it.o
    pub handed_on : holds_back it.p ≡ false
    pub quiet : it.v ≡ it.u

  -- the words ask for this task of an accepted query
  pub record AskForAccepted (it : ProgramRun) (task : Task) (text : List ℕ) (profile : Profile)
      : Type 0 where
    pub explains : Bool
    pub asks : AskFor it.words task text profile explains
    pub q : QueryTree
    pub accepted : IsAsked profile text q

  -- no accepted query is asked for, by these words in any profile
  abbrev pub AskForNone : ProgramRun → Type 0
  AskForNone it = (task : Task) (text : List ℕ) (profile : Profile)
      → AskForAccepted it task text profile → ⊥

  -- this is what that task writes
  abbrev pub IsOutputOf : ProgramRun → Task → List ℕ → Profile → List ℕ → Type 0
  IsOutputOf it task text profile =
      IsWrittenBy profile remaining has_failed read_gives contents writes_failed task text it.i it.j

  -- what a task reads: for nodes the input to its end, else nothing
  abbrev pub ReadsFor : ProgramRun → Task → Type 0
  ReadsFor it Check = it.j ≡ it.i
  ReadsFor it Canon = it.j ≡ it.i
  ReadsFor it (Eval nodes) =
      (bytes : List ℕ) × ReadsAll remaining has_failed read_gives it.i it.j bytes

  -- An accepted query is asked for; what its task reads was read, and no read failed; its output went to
  -- its end, by calls of which none failed, and nothing of it is held back; and nothing is told.
  pub record FinishesItsTask (it : ProgramRun) : Type 0 where
    pub task : Task
    pub text : List ℕ
    pub profile : Profile
    pub asks : AskForAccepted it task text profile
    pub reads : ReadsFor it task
    pub output : List ℕ
    pub is : IsOutputOf it task text profile output
    pub ends : it.status ≡ status_of_done profile remaining has_failed read_gives contents
        writes_failed task text it.i it.j output is
    pub goes : GoByCalls write_takes it.o it.p output
    pub works : writes_failed it.p ≡ writes_failed it.o
    pub handed_on : holds_back it.p ≡ false
    pub quiet : it.v ≡ it.u

  -- The nodes of an accepted query are asked for, and that the status tells whether there are none; the input
  -- was read to its end, and the query selects nothing in its document; nothing went to the output, which
  -- holds back nothing, and nothing is told.
  pub record SelectsNothing (it : ProgramRun) : Type 0 where
    pub nodes : NodeTask
    pub text : List ℕ
    pub profile : Profile
    pub asks : AskForAccepted it (Eval nodes) text profile
    pub asks_status : nodes.tells_none ≡ true
    pub is : IsOutputOf it (Eval nodes) text profile []
    pub none : nodelist is.q is.d ≡ []
    pub goes : GoByCalls write_takes it.o it.p []
    pub works : writes_failed it.p ≡ writes_failed it.o
    pub handed_on : holds_back it.p ≡ false
    pub quiet : it.v ≡ it.u

  -- the nodes of an accepted query are asked for; a read failed, the last that was made, and that is
  -- told; nothing is written
  pub record FailsToReadItsInput (it : ProgramRun) : Type 0 where
    pub nodes : NodeTask
    pub text : List ℕ
    pub profile : Profile
    pub asks : AskForAccepted it (Eval nodes) text profile
    pub fails : FailsToRead remaining has_failed read_gives it.i it.j
    pub unwritten : it.p ≡ it.o
    pub tells : TellsLine it Read

  -- an accepted query is asked for, and what its task reads was read; a call of the output failed, the
  -- last that was made, and before it a prefix went of what the task writes; that is told
  pub record FailsToWriteItsOutput (it : ProgramRun) : Type 0 where
    pub task : Task
    pub text : List ℕ
    pub profile : Profile
    pub asks : AskForAccepted it task text profile
    pub reads : ReadsFor it task
    pub output : List ℕ
    pub is : IsOutputOf it task text profile output
    pub goes : GoesToAFailure write_takes it.o it.p output
    pub fails : writes_failed it.p ≡ true
    pub tells : TellsLine it Write

  -- the words ask for help or for the version; nothing is read; a call of the output failed, the last that
  -- was made, and before it a prefix of its text went; that is told
  pub record FailsToShowItsHelp (it : ProgramRun) : Type 0 where
    pub asks : AsksToShow jp it.words
    pub unread : it.j ≡ it.i
    pub text : List ℕ
    pub written : AppendsPrefix (contents it.o) (contents it.p) text
    pub goes : GoesToAFailure write_takes it.o it.p text
    pub fails : writes_failed it.p ≡ true
    pub tells : TellsLine it Write

  -- the input or the output failed
  abbrev pub FailsAtItsStreams : ProgramRun → Type 0
  FailsAtItsStreams it =
      FailsToReadItsInput it ⊎ FailsToWriteItsOutput it ⊎ FailsToShowItsHelp it

  pub record Program : Type 0 where
    -- What runs answer and write is what the headline says of them, in each profile.
    pub headline : (profile : Profile)
        → Headline profile remaining has_failed read_gives contents writes_failed
    -- Words that ask for the nodes of an accepted query over an accepted document get the lines of
    -- its nodelist, or of its first node, with status 0, or with status 6 where that is asked for and
    -- nothing is selected;
    pub selects : (it : ProgramRun) (nodes : NodeTask) (text : List ℕ) (profile : Profile)
        (explains : Bool) (q : QueryTree) (d : Value)
        → AskFor it.words (Eval nodes) text profile explains
        → IsPair profile text it q d
        → WritesText it (status_done nodes.tells_none (nodelist q d)) (output_asked nodes q d)
    -- status 0 has no other query over no other bytes;
    pub no_other : (it : ProgramRun) (nodes : NodeTask) (text bytes : List ℕ) (profile : Profile)
        (explains : Bool)
        → AskFor it.words (Eval nodes) text profile explains
        → remaining it.i ≡ Some bytes
        → it.status ≡ 0
        → (q : QueryTree) × (d : Value) × IsPair profile text it q d
    -- words that ask for the canonical text of an accepted query get it in a line, without a read,
    pub canonical : (it : ProgramRun) (text : List ℕ) (profile : Profile) (explains : Bool)
        (q : QueryTree)
        → AskFor it.words Canon text profile explains
        → IsAsked profile text q
        → (it.j ≡ it.i) × WritesText it 0 (canon_line q)
    -- and so do those that ask whether it is accepted a line that says so.
    pub checked : (it : ProgramRun) (text : List ℕ) (profile : Profile) (explains : Bool)
        (q : QueryTree)
        → AskFor it.words Check text profile explains
        → IsAsked profile text q
        → (it.j ≡ it.i) × WritesText it 0 (accepted_line q)
    -- Whatever they ask for, with status 0 the query is accepted,
    pub done : (it : ProgramRun) (task : Task) (text : List ℕ) (profile : Profile)
        (explains : Bool)
        → AskFor it.words task text profile explains
        → it.status ≡ 0
        → (q : QueryTree) × IsAsked profile text q
    -- and all is read and written, to the last byte, if not help or the version is asked for;
    pub finished : (it : ProgramRun) → it.status ≡ 0 → FinishesItsTask it ⊎ ShowsItsHelp it
    -- a query that is not has status 1, unless memory runs out,
    pub not_accepted : (it : ProgramRun) (task : Task) (text : List ℕ) (profile : Profile)
        (explains : Bool)
        → AskFor it.words task text profile explains
        → ((q : QueryTree) → IsAsked profile text q → ⊥)
        → (it.status ≡ 1) ⊎ (it.status ≡ 4)
    -- which no other has.
    pub refused : (it : ProgramRun) → it.status ≡ 1 → RefusesItsQuery it
    -- Words that ask for nothing have status 2, unless memory runs out, or they ask for help or for the
    -- version,
    pub no_words : (it : ProgramRun) → asked it.words ≡ None
        → (it.status ≡ 2) ⊎ (it.status ≡ 4)
        ⊎ (AsksToShow jp it.words × ((it.status ≡ 0) ⊎ (it.status ≡ 5)))
    -- which no others have.
    pub refused_words : (it : ProgramRun) → it.status ≡ 2 → RefusesItsWords it
    -- Bytes that are no document, or too many, have status 3, unless memory runs out or the input
    -- fails,
    pub no_document : (it : ProgramRun) (nodes : NodeTask) (text bytes : List ℕ) (profile : Profile)
        (explains : Bool) (q : QueryTree)
        → AskFor it.words (Eval nodes) text profile explains
        → IsAsked profile text q
        → remaining it.i ≡ Some bytes
        → ((d : Value) → IsDocumentIn (numbers profile) bytes d → length bytes ≤ document_limit → ⊥)
        → (it.status ≡ 3) ⊎ (it.status ≡ 4) ⊎ (it.status ≡ 5)
    -- which says that the document is refused. Status 4 says that memory ran out,
    pub refused_document : (it : ProgramRun) → it.status ≡ 3 → RefusesItsDocument it
    pub exhausted : (it : ProgramRun) → it.status ≡ 4 → TellsLine it NoMemory
    -- and that no call of the input or of the output failed:
    pub exhausted_alone : (it : ProgramRun) → it.status ≡ 4
        → (has_failed it.j ≡ has_failed it.i) × (writes_failed it.p ≡ writes_failed it.o)
    -- nothing is read or written then where no accepted query is asked for,
    pub exhausted_unasked : (it : ProgramRun) → it.status ≡ 4 → AskForNone it
        → (it.j ≡ it.i) × (it.p ≡ it.o)
    -- and nothing is written where the bytes are no document, or too many.
    pub exhausted_unwritten : (it : ProgramRun) (nodes : NodeTask) (text bytes : List ℕ)
        (profile : Profile) (explains : Bool)
        → AskFor it.words (Eval nodes) text profile explains
        → remaining it.i ≡ Some bytes
        → ((d : Value) → IsDocumentIn (numbers profile) bytes d → length bytes ≤ document_limit → ⊥)
        → it.status ≡ 4
        → it.p ≡ it.o
    -- Status 5 says that the input or the output failed, and status 6 that nothing is selected, where that is
    -- asked for; and no run has another status.
    pub failed : (it : ProgramRun) → it.status ≡ 5 → FailsAtItsStreams it
    pub nothing_selected : (it : ProgramRun) → it.status ≡ 6 → SelectsNothing it
    pub statuses : (it : ProgramRun) → it.status ≤ 6
