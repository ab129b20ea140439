-- Why nothing is held back with status 0: a run that ended with a failed write has status 5.
use Rattle.std.proofs.Common.{◌≡◌, ℕ, Bool, false, List, Option, Result, Ok, Err, ap, refl, subst, sym, ◌∙◌}
use Rattle.std.proofs.Common.{arith}
use Rattle.std.specs.Prelude.{⊤}
use Rattle.jp_command.specs.declared.fault.Fault.TheVariants as fault
use Rattle.jp_command.proofs.Program.{fault-is_told}
use Rattle.jp_lines.specs.Program.{Closes, Flushes, RunsJob, RunsProgram, begun, ended}
use Rattle.jp_lines.specs.Program.{exhausted, failed, flushed, memory, not_begun, refused, shown}
use Rattle.jp_lines.specs.Program.{shown_in_part, status_of_end, status_of_unbegun, told, unflushed}
use Rattle.jp_lines.specs.Program.{unheard, untold, usage}
use Rattle.jp_lines.specs.Request.{Job, Request}
use Rattle.jp_lines.specs.declared.halt.Ended.{Ended}
use Rattle.jp_lines.specs.declared.halt.Halt.{Halt}
use Rattle.jp_lines.specs.declared.halt.Halt.TheVariants as halt
use Rattle.jp_lines.specs.declared.halt.Passed.{Passed}
use Rattle.jp_lines.specs.declared.halt.Unbegun.{Unbegun}
use Rattle.jp_lines.specs.declared.halt.Unbegun.TheVariants as why
use Rattle.jp_lines.specs.declared.inputs.Unopened.{Unopened}
use Rattle.jp_lines.specs.declared.options.Options.{Options}

-- what did not begin has another status
unbegun-is_told : (given : Unbegun) → status_of_unbegun given ≡ 0 → ⊥
unbegun-is_told (why.Query text r) is = omega (arith, is)
unbegun-is_told (why.Expression text r) is = omega (arith, is)
unbegun-is_told (why.Fault f) is = fault-is_told f is

-- and what a failed write ended
write-is_told : (options : Options) (passed : Passed) (end : Result ⊤ Halt)
    → end ≡ Err (halt.Fault fault.Write) → status_of_end options passed end ≡ 0 → ⊥
write-is_told options passed end is zero =
    let five : status_of_end options passed end ≡ 5 = ap (status_of_end options passed) is in
    omega (arith, five, zero)

module _ {I R W E : Type 0} (opens : I → List ℕ → Result R Unopened → I → Type 0)
    (remaining : R → Option (List ℕ)) (has_failed : R → Bool)
    (read_gives : R → Option (List ℕ) → R → Type 0) (contents : W → Option (List ℕ))
    (writes_failed : W → Bool) (write_takes : W → Option (List ℕ) → W → Type 0)
    (holds_back : W → Bool) (reports : E → Option (List ℕ)) (reports_failed : E → Bool) where
  flushed-so : (options : Options) (passed : Passed) (o p : W) (end given : Result ⊤ Halt)
      → Flushes contents writes_failed write_takes holds_back o p end given
      → status_of_end options passed given ≡ 0 → holds_back p ≡ false
  flushed-so options passed o p end given (unflushed fails same is) zero =
      absurd (write-is_told options passed given (is ∙ fails) zero)
  flushed-so options passed o p end given (flushed works none keeps takes is) zero = none
  flushed-so options passed o p end given (failed fails keeps takes is) zero =
      absurd (write-is_told options passed given is zero)

  job-hands_on : (job : Job) (options : Options) (a b : I) (o p : W) (u v : E) (answer : Result Ended Unbegun)
      (it : Ended) → answer ≡ Ok it
      → RunsJob opens remaining has_failed read_gives contents writes_failed write_takes holds_back
      reports reports_failed job a b o p u v answer
      → status_of_end options it.passed it.end ≡ 0 → holds_back p ≡ false
  job-hands_on job options a b o p u v answer it is (begun task other so asks whole) zero =
      let same : other ≡ it = cc in
      flushed-so options it.passed whole.gone p whole.end it.end
      (subst (λ x. Flushes contents writes_failed write_takes holds_back whole.gone p whole.end x.end)
      same whole.flushes) zero
  job-hands_on job options a b o p u v answer it is (refused other so refuses opened same quiet) zero =
      cc
  job-hands_on job options a b o p u v answer it is (exhausted so opened same quiet) zero = cc
  job-hands_on job options a b o p u v answer it is (not_begun task f so asks stops opened quiet) zero =
      cc

  closes-hands_on : (options : Options) (request : Request) (it : Ended) (hung : Bool) (u v : E)
      (status : ℕ) → Closes reports reports_failed options request it hung u v status → status ≡ 0
      → status_of_end options it.passed it.end ≡ 0
  closes-hands_on options request it hung u v status (unheard fails hung_up is same) zero =
      absurd (omega (arith, is, zero))
  closes-hands_on options request it hung u v status (told between heard is ends tells) zero =
      sym is ∙ zero
  closes-hands_on options request it hung u v status (untold between heard asks is ends tells) zero =
      absurd (omega (arith, is, zero))

  pub zero-hands_on : (hung_up : W → Bool) (words : List (List ℕ)) (a b : I) (o p : W) (u v : E)
      (status : ℕ)
      → RunsProgram opens remaining has_failed read_gives contents writes_failed write_takes
      holds_back reports reports_failed hung_up words a b o p u v status
      → status ≡ 0 → holds_back p ≡ false
  zero-hands_on hung_up words a b o p u v status (ended it between run closes) zero =
      job-hands_on run.job run.job.options a b o p u between (Ok it) it refl run.runs
      (closes-hands_on run.job.options run.job.request it (hung_up p) between v status closes zero)
  zero-hands_on hung_up words a b o p u v status (not_begun given run is tells) zero =
      absurd (unbegun-is_told given (sym is ∙ zero))
  zero-hands_on hung_up words a b o p u v status (shown is asks opened quiet writes works none) zero =
      none
  zero-hands_on hung_up words a b o p u v status (shown_in_part is asks opened writes fails tells) zero =
      absurd (omega (arith, is, zero))
  zero-hands_on hung_up words a b o p u v status (usage is asks opened same tells) zero =
      absurd (omega (arith, is, zero))
  zero-hands_on hung_up words a b o p u v status (memory is opened same tells) zero =
      absurd (omega (arith, is, zero))
