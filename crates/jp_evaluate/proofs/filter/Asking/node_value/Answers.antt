use Rattle.std.proofs.Common.{ap, ◌∙◌}
use Rattle.jp_document.specs.Node.{root_of}
use Rattle.jp_evaluate.specs.Private.Singular.{values_along}
use Rattle.jp_evaluate.proofs.Nodelists.Along.{along_query, of_segments}
use Rattle.jp_evaluate.proofs.Walks.Choices.{drop_none}
use Rattle.jp_evaluate.proofs.filter.Asking.node_value.Goals as goal

pub loop-segment-init : goal.loop-segment-init
loop-segment-init g c =
    let v = g.V.Lent.meaning c.start-value.result in
    let a = c.args.self.now in
    ap (λ xs. values_along (of_segments xs) v) (drop_none _ ∙ c.deref-segment-items.ensures.value)
    ∙ along_query c.args.query.now (g.V.Lent.meaning a.evaluation.now.root) v
    (root_of (g.V.Lent.meaning a.current)) c.start-value.ensures
