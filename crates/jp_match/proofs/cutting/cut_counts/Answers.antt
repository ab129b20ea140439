use Rattle.std.proofs.Common.{arith}
use Rattle.std.proofs.lemmas.Option.{IfSome_then}
use Rattle.jp_iregexp.specs.Tree.{tree}
use Rattle.jp_match.proofs.Texts.Cutting.{no_most, none_between, none_with, same_self, same_then}
use Rattle.jp_match.proofs.cutting.cut_counts.Goals as goal

pub returns-in_default-clause-same : goal.returns-in_default-clause-same
returns-in_default-clause-same c = rw c.in_default.is c.cut_least.ensures.same

pub returns-in_default-clause-none : goal.returns-in_default-clause-none
returns-in_default-clause-none c = rw c.in_default.is c.cut_least.ensures.none

pub returns-then-most-least-clause-none : goal.returns-then-most-least-clause-none
returns-then-most-least-clause-none c = λ e. rw c.in-Some.is (none_between (tree c.args.inner.now)
    c.args.least c.in-Some.most c.args.chars (omega (arith, c.if-most-least.true)))

pub returns-then-most-chars-clause-same : goal.returns-then-most-chars-clause-same
returns-then-most-chars-clause-same c = rw c.in-Some.is (same_self _ _)

pub returns-clause-same : goal.returns-clause-same
returns-clause-same c = rw c.in-Some.is (IfSome_then c.cut_least-2.result c.cut_least-2.ensures.same
    (λ within same. same_then _ _ _ _ same (no_most (tree c.args.inner.now) c.args.least
    c.in-Some.most c.args.chars (omega (arith, c.if-most-least.false)) (omega (
      arith,
      c.if-most-chars.false,
    )))))

pub returns-clause-none : goal.returns-clause-none
returns-clause-none c = λ e. rw c.in-Some.is (none_with (tree c.args.inner.now) c.args.least
    c.in-Some.most c.args.chars (c.cut_least-2.ensures.none e))
