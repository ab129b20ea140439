-- What the answer to one line says. The clauses of `answer` cite it.
use Rattle.std.specs.Prelude.{All, ◌≡◌, ◌⊎◌, ⊤, ℕ, Bool, true, List, Option, Result, Ok}
use Rattle.std.specs.Prelude.{Err, map}
use Rattle.jp_document.specs.declared.fault.DocumentFault.{DocumentFault}
use Rattle.jp_document.specs.declared.fault.DocumentFault.TheVariants as document
use Rattle.jp_exact.specs.Defects.{IsDocumentFaultIn}
use Rattle.jp_held.specs.declared.portion.Portion.{Portion}
use Rattle.jp_tree.specs.Views.{expr_of, query_of}
use Rattle.jp_check.specs.Numbers.{numbers}
use Rattle.jp_check.specs.declared.profile.Profile.{Profile}
use Rattle.jp_evaluate.specs.Plan.{Serves, ServesTest}
use Rattle.jp_command.specs.Output.{AppendsPrefix, WritesAll}
use Rattle.jp_command.specs.declared.fault.Fault.{Fault}
use Rattle.jp_command.specs.declared.fault.Fault.TheVariants.{NoMemory, Write}
use Rattle.jp_lines.specs.Outcome.{Answered, Blank, ComesTo, IsDefective}
use Rattle.jp_lines.specs.Task.{Keep, Select, Tabulate, Task}
use Rattle.jp_lines.specs.declared.answer.Reply.{Reply}
use Rattle.jp_lines.specs.declared.answer.Reply.TheVariants as reply
use Rattle.jp_lines.specs.declared.answer.Reply.TheVariants.{Written}
use Rattle.jp_lines.specs.declared.defect.Defect.{Defect}
use Rattle.jp_lines.specs.declared.defect.Defect.TheVariants.{Document}
use Rattle.jp_lines.specs.declared.options.Options.{Options}
use Rattle.jp_lines.specs.declared.task.Task as coded
use Rattle.jp_lines.specs.declared.task.Task.TheVariants as tasks

-- the defect of a line whose bytes have that fault: want of memory is none, and a fault of the run
abbrev pub defect_of : DocumentFault → Result Reply Fault
defect_of document.NoMemory = Err NoMemory
defect_of fault = Ok (reply.Refused (Document fault))

-- of the bytes of a line that are no document with the numbers of the profile, the defect is their fault
abbrev pub IsDefectOfBytes : Profile → List ℕ → Defect → Type 0
IsDefectOfBytes profile bytes (Document fault) = IsDocumentFaultIn (numbers profile) bytes fault
IsDefectOfBytes profile bytes _ = ⊤

-- what is read of a document in that portion serves the task
abbrev pub ServesTask : Task → Portion → Type 0
ServesTask (Select wanted extent q) p = Serves q p
ServesTask (Keep e) p = ServesTest e p
ServesTask (Tabulate style qs) p = All (λ q. Serves q p) qs

-- what is read of a document for the task serves it
abbrev pub HasPlan : coded.Task → Type 0
HasPlan (tasks.Select selection) =
    Serves (query_of selection.query.now.query) selection.plan.now.portion
HasPlan (tasks.Keep keeping) =
    ServesTest (expr_of keeping.filter.now.expr) keeping.plan.now.portion
HasPlan (tasks.Tabulate columns) =
    All (λ q. Serves q columns.plan.now.portion) (map (λ c. query_of c.query) columns.queries.now)

-- o and p are the output before and after
module _ {W : Type 0} (contents : W → Option (List ℕ)) (has_failed : W → Bool) (options : Options)
    (task : Task) (number : ℕ) (line : List ℕ) (o p : W) where
  -- all that is to be written of the line is written, in whose document so many nodes are selected
  pub record AnswersLine (selected : ℕ) : Type 0 where
    pub output : List ℕ
    pub comes : ComesTo options task number line (Answered selected output)
    pub writes : WritesAll contents has_failed o p output

  -- a prefix of it is
  pub record AnswersInPart : Type 0 where
    pub selected : ℕ
    pub output : List ℕ
    pub comes : ComesTo options task number line (Answered selected output)
    pub writes : AppendsPrefix (contents o) (contents p) output

  abbrev pub AnswersOrRefuses : Reply → Type 0
  AnswersOrRefuses reply.Blank = ComesTo options task number line Blank × (p ≡ o)
  AnswersOrRefuses (Written selected) = AnswersLine selected
  AnswersOrRefuses (reply.Refused defect) =
      IsDefective options task number line defect × (p ≡ o)

  abbrev pub StopsAnswering : Fault → Type 0
  StopsAnswering NoMemory = ((p ≡ o) ⊎ AnswersInPart) × (has_failed p ≡ has_failed o)
  StopsAnswering Write = AnswersInPart × (has_failed p ≡ true)
  StopsAnswering _ = ⊥
