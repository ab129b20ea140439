use Rattle.std.proofs.Common.{arith, refl}
use Rattle.jp_iregexp.specs.Tree.{tree}
use Rattle.jp_iregexp.proofs.Trees.{tree_class}
use Rattle.jp_match.specs.Private.Plain.{unrolled}
use Rattle.jp_match.proofs.Steps.Sizes.{own_other, size_unrolled}
use Rattle.jp_match.proofs.counts.own_rounds.Goals as goal

pub returns-in-Class : goal.returns-in-Class
unfolding unrolled
returns-in-Class c = rw (c.in-Class.is, tree_class) refl

pub returns-in_default : goal.returns-in_default
returns-in_default c =
    let own = own_other c.args.inner.now c.in_default.not-Class in
    let sizes = size_unrolled (tree c.args.inner.now) in
    omega (arith, own, sizes, c.requires)
