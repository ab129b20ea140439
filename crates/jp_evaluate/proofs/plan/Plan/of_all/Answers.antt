use Rattle.std.proofs.Common.{◌<◌, ◌≤◌, All, arith, length, subst}
use Rattle.std.proofs.lemmas.List.{take_all}
use Rattle.std.proofs.lemmas.List.Elements.{All-map}
use Rattle.jp_check.specs.Checked.{Profiled}
use Rattle.jp_tree.specs.Views.{query_of}
use Rattle.jp_evaluate.specs.Plan.{Serves}
use Rattle.jp_evaluate.proofs.Plans.{serves-more}
use Rattle.jp_evaluate.proofs.plan.Plan.of_all.Goals as goal

pub loop-query-preserved : goal.loop-query-preserved
loop-query-preserved c =
    let queries = c.args.queries.now in
    let i = c.loop-query.query-index in
    let within : i < length queries = omega (arith, c.loop-query-test.true) in
    let after = c.add.new.self.portion in
    serves-more queries i c.query-item.result c.loop-query.plan.portion after c.add.ensures.others within
    c.loop-query.invariant
    (subst (λ (q : Profiled). Serves (query_of q.query) after) c.query-item.is c.add.ensures.serves)

pub returns : goal.returns
returns c =
    let queries = c.args.queries.now in
    let i = c.loop-query.query-index in
    let past : length queries ≤ i = omega (arith, c.loop-query-test.false) in
    let portion = c.loop-query.plan.portion in
    All-map (λ q. Serves q portion) (λ (q : Profiled). query_of q.query) queries
    (subst (All (λ (q : Profiled). Serves (query_of q.query) portion)) (take_all i queries past)
    c.loop-query.invariant)
