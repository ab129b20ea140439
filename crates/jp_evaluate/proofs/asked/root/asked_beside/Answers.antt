use Rattle.std.proofs.Common.{IfSome, String, Vec, subst}
use Rattle.std.specs.declared.alloc.Global.{Global}
use Rattle.jp_tree.specs.Views.{query_of}
use Rattle.jp_evaluate.specs.Asked.{AsksNoMore}
use Rattle.jp_evaluate.specs.Private.Asks.{AskedOf, asks_root, pass}
use Rattle.jp_evaluate.proofs.Kept.Root.{query-asks-root}
use Rattle.jp_evaluate.proofs.Kept.Together.{asks-among}
use Rattle.jp_evaluate.proofs.asked.root.asked_beside.Goals as goal

pub returns-in-Some-clause-asks : goal.returns-in-Some-clause-asks
returns-in-Some-clause-asks c =
    let q = query_of c.args.query.now.query in
    let P : Vec (String Global) Global → Type 0 = λ ns. AskedOf ns.items (λ p. asks_root p q) in
    query-asks-root q c.in-Some.names (subst (λ o. IfSome o P) c.in-Some.is c.in_ok-names.ensures.asked)

pub returns-in-Some-clause-others : goal.returns-in-Some-clause-others
returns-in-Some-clause-others c = λ q asks.
    let before = c.in-OfRoot.names in
    let P : Vec (String Global) Global → Type 0 = λ ns. AskedOf ns.items (λ p. pass p before.items) in
    asks-among q before c.in-Some.names
    (subst (λ o. IfSome o P) c.in-Some.is c.in_ok-names.ensures.others)
    (subst (AsksNoMore q) c.in-OfRoot.is asks)
