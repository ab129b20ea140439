-- What a command line asks for, as the code holds it, and what is told of the fault of its run. The
-- private functions that read the words, and the one that tells, cite it.
use Rattle.std.specs.Prelude.{◌≡◌, ℕ, Bool, true, List, Option, None}
use Rattle.clap.specs.Words.{Text}
use Rattle.clap.specs.declared.error.kind.ErrorKind.{ErrorKind}
use Rattle.jp_check.specs.declared.profile.Profile.{Profile}
use Rattle.jp_document.specs.declared.fault.DocumentFault.{DocumentFault}
use Rattle.jp_query.specs.declared.refusal.Refusal.{Refusal}
use Rattle.jp_command.specs.CommandLine.{asked, jp}
use Rattle.jp_command.specs.Help.{IsClapsAnswer}
use Rattle.jp_command.specs.Line.{TellsExplained, TellsMisread, fault_line}
use Rattle.jp_command.specs.Output.{AppendsPrefix}
use Rattle.jp_command.specs.declared.fault.Fault.{Fault}
use Rattle.jp_command.specs.declared.fault.Fault.TheVariants.{Query, Document}
use Rattle.jp_command.specs.declared.words.Asked.{Asked}
use Rattle.jp_command.specs.declared.words.Task.{Task}

abbrev pub parts_of : Asked → Task × Text × Profile × Bool
parts_of asked = (asked.task, asked.query.now, asked.profile, asked.is_explaining)

-- the words ask for nothing, and clap answers them with an error of this kind
abbrev pub HasNoTask : ErrorKind → List Text → Type 0
HasNoTask k words = (asked words ≡ None) × IsClapsAnswer jp k words

-- the line of a fault is told, and where that is asked for, behind that of a refused query an
-- explanation, and behind that of a refused document how these bytes are misread
pub data TellsFault (old new : Option (List ℕ)) (explains : Bool) (profile : Profile)
    (query bytes : List ℕ) (f : Fault) : Type 0 where
  line_alone : AppendsPrefix old new (fault_line f)
      → TellsFault old new explains profile query bytes f
  with_explanation : (r : Refusal) → f ≡ Query r → explains ≡ true
      → TellsExplained profile query r old new → TellsFault old new explains profile query bytes f
  with_misreading : (d : DocumentFault) → f ≡ Document d → explains ≡ true
      → TellsMisread profile bytes (Document d) old new
      → TellsFault old new explains profile query bytes f
