-- What the definition of an input's lines implies, how a run over lines stands to one over a document,
-- and what status 0 says of the output.
use Rattle.std.specs.Prelude.{◌≡◌, ℕ, Bool, false, List, [], ◌∷◌, Option, Some, Result, Ok}
use Rattle.std.specs.List.{join_with_byte}
use Rattle.jp_command.specs.Run.{RunsEval}
use Rattle.jp_command.specs.declared.form.Form.{Form}
use Rattle.jp_lines.specs.Lines.{is_blank_line, lines_of_input, newline}
use Rattle.jp_lines.specs.Request.{SelectBy}
use Rattle.jp_lines.specs.Program.{RunsProgram}
use Rattle.jp_lines.specs.Run.{RunsLines}
use Rattle.jp_lines.specs.declared.inputs.Unopened.{Unopened}
use Rattle.jp_lines.specs.declared.options.Options.{Options}
use Rattle.jp_lines.specs.declared.options.Extent.TheVariants.{All}
use Rattle.jp_lines.specs.declared.options.Wanted.TheVariants.{Nodes}
use Rattle.jp_lines.specs.declared.tally.Tally.{Tally}

-- the lines of an input, with a newline between each two, are the input again
abbrev pub LinesJoinAgain : Type 0
LinesJoinAgain = (input : List ℕ) → join_with_byte newline (lines_of_input input) ≡ input

-- i and j are the input before and after a run, o and p the output
module _ {R W E : Type 0} (remaining : R → Option (List ℕ)) (has_failed : R → Bool)
    (read_gives : R → Option (List ℕ) → R → Type 0) (contents : W → Option (List ℕ))
    (writes_failed : W → Bool) (reports : E → Option (List ℕ)) (reports_failed : E → Bool) where
  -- Of an input that is one line, and no blank one, a run over lines that refuses none and writes no line
  -- numbers says what a run over the document says, in the same profile.
  abbrev pub OneLineIsADocument : Type 0
  OneLineIsADocument = (form : Form) (options : Options) (text bytes : List ℕ) (i j : R) (o p : W)
      (u v : E) (tally : Tally) → options.numbered ≡ false → tally.refused ≡ 0
      → remaining i ≡ Some bytes → lines_of_input bytes ≡ bytes ∷ [] → is_blank_line bytes ≡ false
      → RunsLines options remaining has_failed read_gives contents writes_failed reports reports_failed
      (SelectBy (Nodes form) All text) i j o p u v (Ok tally)
      → RunsEval options.profile remaining has_failed read_gives contents writes_failed form text i j o p
      (Ok (tt {0}))

module _ {I R W E : Type 0} (opens : I → List ℕ → Result R Unopened → I → Type 0)
    (remaining : R → Option (List ℕ)) (has_failed : R → Bool)
    (read_gives : R → Option (List ℕ) → R → Type 0) (contents : W → Option (List ℕ))
    (writes_failed : W → Bool) (write_takes : W → Option (List ℕ) → W → Type 0)
    (holds_back : W → Bool) (reports : E → Option (List ℕ)) (reports_failed : E → Bool)
    (hung_up : W → Bool) where
  -- With status 0 nothing is held back of what was written.
  abbrev pub HandsOnAll : Type 0
  HandsOnAll = (words : List (List ℕ)) (a b : I) (o p : W) (u v : E) (status : ℕ)
      → RunsProgram opens remaining has_failed read_gives contents writes_failed write_takes
      holds_back reports reports_failed hung_up words a b o p u v status
      → status ≡ 0 → holds_back p ≡ false
