use Rattle.std.proofs.Common.{subst}
use Rattle.jp_iregexp.proofs.Trees.{tree_repeat}
use Rattle.jp_match.specs.Private.Plain.{unrolled}
use Rattle.jp_match.specs.Private.Sweeps.{IsBefore}
use Rattle.jp_match.proofs.Patterns.Variants.{repeat_is}
use Rattle.jp_match.proofs.idle.idle_part.Goals as goal

pub idle_copies-requires : goal.idle_copies-requires
idle_copies-requires c =
    let is = repeat_is _ _ _ _ _ c.in-Repeat.is c.deref.ensures in
    subst (λ t. IsBefore (unrolled t) c.args.sweep.now) is.same c.requires

pub returns-in-Repeat : goal.returns-in-Repeat
returns-in-Repeat c = rw (c.in-Repeat.is, tree_repeat, ← c.deref.ensures) c.idle_copies.ensures
