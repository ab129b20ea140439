-- What the program says with its status: the status and the line of each fault, what a task's run
-- says, and `RunsLine`, which the clause of `run_line` cites.
use Rattle.std.specs.Prelude.{◌≡◌, ℕ, Bool, true, false, List, ◌++◌, Option, Some, None, Result, Ok}
use Rattle.std.specs.Prelude.{Err, codes}
use Rattle.jp_check.specs.Numbers.{numbers}
use Rattle.jp_check.specs.declared.profile.Profile.{Profile}
use Rattle.jp_document.specs.Faults.{document_fault_name}
use Rattle.jp_document.specs.declared.fault.DocumentFault.{DocumentFault}
use Rattle.jp_evaluate.specs.Nodelist.{nodelist}
use Rattle.jp_json.specs.Misreading.{IsMisreading}
use Rattle.jp_json.specs.Told.{misreading_text}
use Rattle.jp_json.specs.declared.misreading.Misreading.{Misreading}
use Rattle.jp_query.specs.Refusal.{refusal_text}
use Rattle.jp_query.specs.declared.refusal.Refusal.{Refusal}
use Rattle.jp_command.specs.Canon.{RunsCanon, canon_line}
use Rattle.jp_command.specs.Check.{RunsCheck, accepted_line}
use Rattle.jp_command.specs.CommandLine.{asked, jp}
use Rattle.jp_command.specs.Explained.{IsExplanation, IsExpressionExplanation}
use Rattle.jp_command.specs.Help.{AreNoCommand, AsksToShow}
use Rattle.jp_command.specs.Hint.{document_hint}
use Rattle.jp_command.specs.NodeTask.{status_done}
use Rattle.jp_command.specs.QueryLine.{IsQueryLine}
use Rattle.jp_command.specs.Run.{IsNodesOutput, RefusesDocument, RunsNodes}
use Rattle.jp_command.specs.Output.{AppendsPrefix, AppendsSome, WritesAll}
use Rattle.jp_command.specs.Writes.{GoByCalls, GoesToAFailure, WritesByCalls}
use Rattle.jp_command.specs.declared.fault.Fault.{Fault}
use Rattle.jp_command.specs.declared.fault.Fault.TheVariants.{Query, Document, DocumentTooLarge}
use Rattle.jp_command.specs.declared.fault.Fault.TheVariants.{NoMemory, Read, Write}
use Rattle.jp_command.specs.declared.words.Task.{Task}
use Rattle.jp_command.specs.declared.words.Task.TheVariants.{Check, Canon, Eval}

-- the status of a fault
abbrev pub status_of : Fault → ℕ
status_of (Query r) = 1
status_of (Document f) = 3
status_of DocumentTooLarge = 3
status_of NoMemory = 4
status_of Read = 5
status_of Write = 5

-- what stands in the line of a fault
abbrev pub fault_text : Fault → List ℕ
fault_text (Query r) = codes "query refused: " ++ refusal_text r
fault_text (Document f) = codes "document refused: " ++ document_fault_name f
fault_text DocumentTooLarge = codes "document refused: DocumentTooLarge"
fault_text NoMemory = codes "want of memory"
fault_text Read = codes "read fault"
fault_text Write = codes "write fault"

-- the line of a fault, which a newline ends
abbrev pub fault_line : Fault → List ℕ
fault_line f = fault_text f ++ codes "\n"

-- the line of words that are not UTF-8
abbrev pub words_line : List ℕ
words_line = codes "words refused: NotUtf8\n"

-- the line of a query that is refused with r, and behind it such an explanation of that
pub record IsLineBefore (Explanation : List ℕ → Type 0) (r : Refusal) (text : List ℕ) : Type 0 where
  pub explanation : List ℕ
  pub explains : Explanation explanation
  pub is : text ≡ fault_line (Query r) ++ explanation

abbrev pub IsExplainedLine : Profile → List ℕ → Refusal → List ℕ → Type 0
IsExplainedLine profile query r = IsLineBefore (IsExplanation profile query r) r

-- the same of the expression of a filter
abbrev pub IsExpressionLine : Profile → List ℕ → Refusal → List ℕ → Type 0
IsExpressionLine profile text r = IsLineBefore (IsExpressionExplanation profile text r) r

-- a prefix of them is told
abbrev pub TellsExplained : Profile → List ℕ → Refusal → Option (List ℕ) → Option (List ℕ) → Type 0
TellsExplained profile query r old new =
    (text : List ℕ) × IsExplainedLine profile query r text × AppendsPrefix old new text

abbrev pub TellsExpression : Profile → List ℕ → Refusal → Option (List ℕ) → Option (List ℕ) → Type 0
TellsExpression profile expression r old new =
    (text : List ℕ) × IsExpressionLine profile expression r text × AppendsPrefix old new text

-- the line of that fault, and behind it how the bytes are misread, and what other form they show, which a
-- newline ends
pub record IsMisreadLine (profile : Profile) (bytes : List ℕ) (f : Fault) (text : List ℕ) : Type 0 where
  pub m : Misreading
  pub misread : IsMisreading (numbers profile) bytes m
  pub is : text ≡ fault_line f ++ (misreading_text m ++ (document_hint m bytes ++ codes "\n"))

-- a prefix of them is told
abbrev pub TellsMisread : Profile → List ℕ → Fault → Option (List ℕ) → Option (List ℕ) → Type 0
TellsMisread profile bytes f old new =
    (text : List ℕ) × IsMisreadLine profile bytes f text × AppendsPrefix old new text

-- o and p are the output before and after, u and v what takes the lines of faults
module _ {W E : Type 0} (contents : W → Option (List ℕ)) (writes_failed : W → Bool)
    (write_takes : W → Option (List ℕ) → W → Type 0) (holds_back : W → Bool)
    (reports : E → Option (List ℕ)) where
  -- some text is written, by calls of which none failed, and handed on; or a prefix of it before a call that
  -- failed, the last that was made, or there is no memory for it, and that is told, with this status
  pub data EndsShowing (o p : W) (u v : E) (status : ℕ) : Type 0 where
    whole : (text : List ℕ) → status ≡ 0 → v ≡ u → WritesAll contents writes_failed o p text
        → GoByCalls write_takes o p text → holds_back p ≡ false → EndsShowing o p u v status
    in_part : (text : List ℕ) → status ≡ 5 → AppendsPrefix (contents o) (contents p) text
        → GoesToAFailure write_takes o p text → writes_failed p ≡ true
        → AppendsPrefix (reports u) (reports v) (fault_line Write) → EndsShowing o p u v status
    unmade : status ≡ 4 → p ≡ o → AppendsPrefix (reports u) (reports v) (fault_line NoMemory)
        → EndsShowing o p u v status

-- i and j are the input before and after a run, o and p the output
module _ (profile : Profile) {R W : Type 0} (remaining : R → Option (List ℕ))
    (has_failed : R → Bool) (read_gives : R → Option (List ℕ) → R → Type 0)
    (contents : W → Option (List ℕ)) (writes_failed : W → Bool) where
  -- a task with its query ended with this answer
  abbrev pub RunsTask : {X : Type 0} → Task → List ℕ → R → R → W → W → Result X Fault → Type 0
  RunsTask Check query i j o p answer =
      (j ≡ i) × RunsCheck profile contents writes_failed query o p answer
  RunsTask Canon query i j o p answer =
      (j ≡ i) × RunsCanon profile contents writes_failed query o p answer
  RunsTask (Eval nodes) query i j o p answer =
      RunsNodes profile remaining has_failed read_gives contents writes_failed nodes query i j o p
      answer

  -- this is what a task with its query writes
  abbrev pub IsWrittenBy : Task → List ℕ → R → R → List ℕ → Type 0
  IsWrittenBy Check query i j = IsQueryLine profile accepted_line query
  IsWrittenBy Canon query i j = IsQueryLine profile canon_line query
  IsWrittenBy (Eval nodes) query i j =
      IsNodesOutput profile remaining has_failed read_gives contents writes_failed nodes query i j

  -- the status of a task that is done, which wrote this
  abbrev pub status_of_done : (task : Task) (query : List ℕ) (i j : R) (output : List ℕ)
      → IsWrittenBy task query i j output → ℕ
  status_of_done Check query i j output is = 0
  status_of_done Canon query i j output is = 0
  status_of_done (Eval nodes) query i j output is =
      status_done nodes.tells_none (nodelist is.q is.d)

  -- the task that the words ask for, in that profile, ended with this answer; and whether they ask
  -- for an explanation of a refused query or document
  pub record RunsWords {X : Type 0} (write_takes : W → Option (List ℕ) → W → Type 0)
      (words : List (List ℕ)) (i j : R) (o p : W) (answer : Result X Fault) : Type 0 where
    pub task : Task
    pub query : List ℕ
    pub explains : Bool
    pub asks : asked words ≡ Some (task, query, profile, explains)
    pub runs : RunsTask task query i j o p answer
    pub calls : WritesByCalls write_takes (IsWrittenBy task query i j) o p answer

-- the same of the whole program
module _ {R W : Type 0} (remaining : R → Option (List ℕ)) (has_failed : R → Bool)
    (read_gives : R → Option (List ℕ) → R → Type 0) (contents : W → Option (List ℕ))
    (writes_failed : W → Bool) (write_takes : W → Option (List ℕ) → W → Type 0) where
  -- what the words ask for, in that profile, ended with this answer
  abbrev pub EndsAs : Profile → List (List ℕ) → R → R → W → W → Result (Unit {0}) Fault → Type 0
  EndsAs profile =
      RunsWords profile remaining has_failed read_gives contents writes_failed write_takes

  -- what is said with a status; u and v are what takes the fault's line, before and after, and
  -- `holds_back` tells whether the output may hold back some of what it took. Behind the line of a
  -- refused query stands an explanation only where the words ask for it, and behind that of a refused
  -- document how the bytes that were read are misread; and then unless memory ran out for it. Where
  -- the words ask for help or for the version, clap's text of that is written, and where they are not
  -- ones that the command line takes, its text is told; its contract says nothing of either
  pub data RunsLine (holds_back : W → Bool) {E : Type 0} (reports : E → Option (List ℕ))
      (words : List (List ℕ)) (i j : R) (o p : W) (u v : E) (status : ℕ) : Type 0 where
    done : (profile : Profile) → (run : EndsAs profile words i j o p (Ok tt))
        → status ≡ status_of_done profile remaining has_failed read_gives contents writes_failed
        run.task run.query i j run.calls.0 run.calls.1
        → holds_back p ≡ false → v ≡ u → RunsLine holds_back reports words i j o p u v status
    fault : (profile : Profile) (f : Fault) → status ≡ status_of f
        → EndsAs profile words i j o p (Err f)
        → AppendsPrefix (reports u) (reports v) (fault_line f)
        → RunsLine holds_back reports words i j o p u v status
    explained : (profile : Profile) (r : Refusal) → status ≡ status_of (Query r)
        → (run : EndsAs profile words i j o p (Err (Query r))) → run.explains ≡ true
        → TellsExplained profile run.query r (reports u) (reports v)
        → RunsLine holds_back reports words i j o p u v status
    misread : (profile : Profile) (f : DocumentFault) → status ≡ status_of (Document f)
        → (run : EndsAs profile words i j o p (Err (Document f))) → run.explains ≡ true
        → (refused : RefusesDocument profile remaining has_failed read_gives contents writes_failed
        run.query i j f)
        → TellsMisread profile refused.bytes (Document f) (reports u) (reports v)
        → RunsLine holds_back reports words i j o p u v status
    shown : asked words ≡ None → AsksToShow jp words → j ≡ i
        → EndsShowing contents writes_failed write_takes holds_back reports o p u v status
        → RunsLine holds_back reports words i j o p u v status
    usage : status ≡ 2 → asked words ≡ None → AreNoCommand jp words → j ≡ i → p ≡ o
        → AppendsSome (reports u) (reports v) → RunsLine holds_back reports words i j o p u v status
    memory : status ≡ 4 → j ≡ i → p ≡ o
        → AppendsPrefix (reports u) (reports v) (fault_line NoMemory)
        → RunsLine holds_back reports words i j o p u v status
