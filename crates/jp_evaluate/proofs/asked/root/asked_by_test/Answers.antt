use Rattle.std.proofs.Common.{IfSome, String, Vec, subst}
use Rattle.std.specs.declared.alloc.Global.{Global}
use Rattle.jp_flat.specs.declared.asked.AskedFor.TheVariants.{OfRoot}
use Rattle.jp_tree.specs.Views.{expr_of}
use Rattle.jp_evaluate.specs.Asked.{TestsNoMore}
use Rattle.jp_evaluate.specs.Private.Asks.{AskedOf, asks_expr}
use Rattle.jp_evaluate.proofs.Kept.Root.{test-asks-root}
use Rattle.jp_evaluate.proofs.asked.root.asked_by_test.Goals as goal

pub returns-in-Some : goal.returns-in-Some
returns-in-Some c =
    let e = expr_of c.expr.result.now in
    let P : Vec (String Global) Global → Type 0 = λ ns. AskedOf ns.items (λ p. asks_expr p e) in
    subst (λ x. TestsNoMore (expr_of x) (OfRoot c.in-Some.names)) c.expr.ensures.same
    (test-asks-root e c.in-Some.names
    (subst (λ o. IfSome o P) c.in-Some.is c.in_ok-names.ensures))
