-- What a run that tells whether a query is accepted says with its answer.
use Rattle.std.specs.Prelude.{ℕ, Bool, List, Option, Result, codes}
use Rattle.jp_check.specs.declared.profile.Profile.{Profile}
use Rattle.jp_tree.specs.Tree.{QueryTree}
use Rattle.jp_command.specs.QueryLine.{RunsQueryLine}
use Rattle.jp_command.specs.declared.fault.Fault.{Fault}

-- the line of an accepted query, whichever it is
abbrev pub accepted_line : QueryTree → List ℕ
accepted_line q = codes "accepted\n"

-- what such a run says with its answer: o and p are the output before and after it
module _ (profile : Profile) {W : Type 0} (contents : W → Option (List ℕ))
    (has_failed : W → Bool) where
  abbrev pub RunsCheck : {X : Type 0} → List ℕ → W → W → Result X Fault → Type 0
  RunsCheck = RunsQueryLine profile accepted_line contents has_failed
