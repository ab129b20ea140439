use Rattle.std.proofs.Common.{ap, ◌∙◌, arith}
use Rattle.jp_iregexp.specs.Tree.{tree}
use Rattle.jp_iregexp.proofs.Trees.{tree_class}
use Rattle.jp_match.proofs.Steps.Idle.{size_copies, idle_of_copies}
use Rattle.jp_match.proofs.idle.idle_copies.Goals as goal

pub is_unmarked-requires : goal.is_unmarked-requires
is_unmarked-requires c =
    let size = size_copies (tree c.args.inner.now) c.args.least c.in-Some.most c.args.most _ _
    c.in-Some.is (ap tree c.in-Class.is ∙ tree_class c.in-Class.field-0) in
    omega (arith, c.requires.marks, size)

pub returns-then-is_unmarked : goal.returns-then-is_unmarked
returns-then-is_unmarked c = idle_of_copies (tree c.args.inner.now) c.args.least c.in-Some.most
    c.args.most _ _ c.args.sweep.now c.in-Some.is (ap tree c.in-Class.is ∙ tree_class
    c.in-Class.field-0) (c.is_unmarked.ensures.0 c.if-is_unmarked.true)
