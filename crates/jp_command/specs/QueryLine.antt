-- What a run that writes one line for a query, in a profile, and reads no document, says with its
-- answer.
use Rattle.std.specs.Prelude.{◌≡◌, ℕ, Bool, true, List, Option, Result, Ok, Err}
use Rattle.jp_check.specs.declared.profile.Profile.{Profile}
use Rattle.jp_tree.specs.Tree.{QueryTree}
use Rattle.jp_command.specs.Output.{WritesOutput, WritesPrefix}
use Rattle.jp_command.specs.Run.{IsAsked, RefusesQuery}
use Rattle.jp_command.specs.declared.fault.Fault.{Fault}
use Rattle.jp_command.specs.declared.fault.Fault.TheVariants.{Query, NoMemory, Write}

-- line_of is the line of each query
module _ (profile : Profile) (line_of : QueryTree → List ℕ) where
  -- the query is asked, and this is its line
  pub record IsQueryLine (text line : List ℕ) : Type 0 where
    pub q : QueryTree
    pub asked : IsAsked profile text q
    pub is : line ≡ line_of q

  -- what such a run says with its answer: o and p are the output before and after it
  module _ {W : Type 0} (contents : W → Option (List ℕ)) (has_failed : W → Bool) where
    abbrev pub RunsQueryLine : {X : Type 0} → List ℕ → W → W → Result X Fault → Type 0
    RunsQueryLine text o p (Ok x) = WritesOutput contents has_failed (IsQueryLine text) o p
    RunsQueryLine text o p (Err (Query r)) = RefusesQuery profile text r × (p ≡ o)
    RunsQueryLine text o p (Err NoMemory) = p ≡ o
    RunsQueryLine text o p (Err Write) =
        WritesPrefix contents has_failed (IsQueryLine text) o p × (has_failed p ≡ true)
    RunsQueryLine text o p (Err _) = ⊥
