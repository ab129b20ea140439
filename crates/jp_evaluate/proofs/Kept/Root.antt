-- Of the document itself other members may be missing than those that queries, or an expression, ask for.
use Rattle.std.proofs.Common.{◌≡◌, ℕ, Bool, true, List, [], ◌∷◌, String, Vec}
use Rattle.std.proofs.Common.{ap, inl, inr, sym, ◌∙◌}
use Rattle.std.specs.declared.alloc.Global.{Global}
use Rattle.jp_document.specs.Node.{root_of}
use Rattle.jp_document.specs.Value.{Value}
use Rattle.jp_flat.specs.Asked.{is_listed, with_members}
use Rattle.jp_flat.specs.declared.asked.AskedFor.TheVariants.{OfRoot}
use Rattle.jp_tree.specs.Tree.{ExprTree, QueryTree, SegmentTrees, query}
use Rattle.jp_evaluate.specs.Asked.{AsksNoMore, TestsNoMore}
use Rattle.jp_evaluate.specs.Nodelist.{holds, nodelist, result}
use Rattle.jp_evaluate.specs.Private.Asks.{AskedOf, asks_expr, asks_members, asks_root}
use Rattle.jp_evaluate.proofs.Kept.Filters.{holds-thin}
use Rattle.jp_evaluate.proofs.Kept.Members.{result-members}
use Rattle.jp_evaluate.proofs.Kept.Queries.{pass-itself}
use Rattle.jp_evaluate.proofs.Paths.Steps.{root_starts}

-- a query that asks for these members alone selects the same without the others
nodelist-members : (p : List ℕ → Bool) (absolute : Bool) (all : SegmentTrees) (d : Value)
    → asks_members p all ≡ true
    → nodelist (query absolute all) (with_members p d) ≡ nodelist (query absolute all) d
nodelist-members p absolute all d asks =
    let u = with_members p d in
    ap (λ n. result all u (n ∷ [])) (sym (root_starts absolute u))
    ∙ result-members p all d u (root_of d ∷ []) asks
    ∙ ap (λ n. result all d (n ∷ [])) (root_starts absolute d)

root-kept : (p : List ℕ → Bool) (q : QueryTree) (d : Value) → asks_root p q ≡ true
    → nodelist q (with_members p d) ≡ nodelist q d
root-kept p (query absolute all) d asks = nodelist-members p absolute all d asks

root-asks : (q : QueryTree) (ns : Vec (String Global) Global)
    → asks_root (is_listed ns.items) q ≡ true → AsksNoMore q (OfRoot ns)
root-asks q ns asks = λ d u kept.
    elim kept [
      | inl is ↦ ap (nodelist q) is
      | inr is ↦ ap (nodelist q) is ∙ root-kept (is_listed ns.items) q d asks
    ]

-- ---- by the names that were told

pub query-asks-root : (q : QueryTree) (ns : Vec (String Global) Global)
    → AskedOf ns.items (λ p. asks_root p q) → AsksNoMore q (OfRoot ns)
query-asks-root q ns asked = root-asks q ns (asked (is_listed ns.items) (pass-itself ns.items))

pub test-asks-root : (e : ExprTree) (ns : Vec (String Global) Global)
    → AskedOf ns.items (λ p. asks_expr p e) → TestsNoMore e (OfRoot ns)
test-asks-root e ns asked = λ d u kept.
    let p = is_listed ns.items in
    let same : holds e (with_members p d) (root_of (with_members p d)) ≡ holds e d (root_of d) =
    holds-thin p e d (with_members p d) (root_of d) (asked p (pass-itself ns.items)) in
    elim kept [
      | inl is ↦ ap (λ v. holds e v (root_of v)) is
      | inr is ↦ ap (λ v. holds e v (root_of v)) is ∙ same
    ]
