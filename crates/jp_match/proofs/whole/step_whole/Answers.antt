use Rattle.std.proofs.Common.{subst}
use Rattle.jp_match.specs.Private.Plain.{unrolled}
use Rattle.jp_match.specs.Private.Sweeps.{IsAtStart}
use Rattle.jp_match.proofs.Patterns.Variants.{either_is}
use Rattle.jp_match.proofs.whole.step_whole.Goals as goal

pub step_branches-requires : goal.step_branches-requires
step_branches-requires c =
    let is = either_is _ _ _ c.in-Either.is c.deref.ensures.value in
    subst (λ t. IsAtStart (unrolled t) c.args.end c.args.sweep.now) is.same c.requires

pub returns-in-Either : goal.returns-in-Either
returns-in-Either c =
    rw (either_is _ _ _ c.in-Either.is c.deref.ensures.value).same c.step_branches.ensures
