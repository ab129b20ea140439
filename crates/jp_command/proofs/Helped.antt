-- Why help or the version ends as `EndsShowing` says.
use Rattle.std.proofs.Common.{◌≡◌, ◌⊎◌, ◌∙◌, inl, inr, ap, subst, sym, ℕ, Bool, true, false, List}
use Rattle.std.proofs.Common.{Option, None, Ok, Err}
use Rattle.std.proofs.lemmas.Bool.{true≢false}
use Rattle.clap.specs.Words.{Text}
use Rattle.clap.specs.declared.error.kind.ErrorKind.{ErrorKind}
use Rattle.clap.specs.declared.error.kind.ErrorKind.TheVariants as kind
use Rattle.jp_command.specs.CommandLine.{asked, jp}
use Rattle.jp_command.specs.Help.{AsksToShow, IsClapsAnswer, is_shown}
use Rattle.jp_command.specs.Line.{EndsShowing, fault_line, in_part, status_of, unmade, whole}
use Rattle.jp_command.specs.Output.{AppendsPrefix}
use Rattle.jp_command.specs.Private.Asked.{HasNoTask}
use Rattle.jp_command.specs.Private.Showing.{GoesShowing, StopsShowing}
use Rattle.jp_command.specs.declared.fault.Fault.{Fault}
use Rattle.jp_command.specs.declared.fault.Fault.TheVariants.{Query, Document, DocumentTooLarge}
use Rattle.jp_command.specs.declared.fault.Fault.TheVariants.{NoMemory, Read, Write}

module _ {W E : Type 0} (contents : W → Option (List ℕ)) (writes_failed : W → Bool)
    (write_takes : W → Option (List ℕ) → W → Type 0) (holds_back : W → Bool)
    (reports : E → Option (List ℕ)) (o p : W) (u v : E) (status : ℕ) where
  abbrev Ends : Type 0
  Ends = EndsShowing contents writes_failed write_takes holds_back reports o p u v status

  pub shown-ends : {X : Type 0} (x : X) → status ≡ 0 → v ≡ u
      → GoesShowing contents writes_failed write_takes o p (Ok x) → holds_back p ≡ false → Ends
  shown-ends x is quiet goes handed = whole goes.0 is quiet goes.1 goes.2 handed

  pub stopped-ends : (X : Type 0) (f : Fault) → status ≡ status_of f
      → StopsShowing writes_failed o p f
      → GoesShowing contents writes_failed write_takes o p {X = X} (Err f)
      → AppendsPrefix (reports u) (reports v) (fault_line f) → Ends
  stopped-ends X NoMemory is same goes told = unmade is same told
  stopped-ends X Write is failed goes told = in_part goes.0 is goes.1 goes.2 failed told
  stopped-ends X (Query r) is none goes told = absurd none
  stopped-ends X (Document d) is none goes told = absurd none
  stopped-ends X DocumentTooLarge is none goes told = absurd none
  stopped-ends X Read is none goes told = absurd none

-- words that clap answers with help or the version ask for them
pub asks-to_show : (k : ErrorKind) (words given : List Text) → given ≡ words
    → (k ≡ kind.OutOfMemory) ⊎ HasNoTask k given → is_shown k ≡ true
    → (asked words ≡ None) × AsksToShow jp words
asks-to_show k words given same (inl memory) shows =
    absurd (true≢false (sym shows ∙ ap is_shown memory))
asks-to_show k words given same (inr none) shows =
    subst (λ ws. (asked ws ≡ None) × AsksToShow jp ws) same (none.0, answered k given shows none.1)
  where
    answered : (k : ErrorKind) (ws : List Text) → is_shown k ≡ true → IsClapsAnswer jp k ws
        → AsksToShow jp ws
    answered k ws shows (inl among) = (k, among, shows)
    answered k ws shows (inr missing) = absurd (true≢false (sym shows ∙ ap is_shown missing.1))
