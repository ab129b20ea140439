use Rattle.std.proofs.Common.{ap, sym, ◌∙◌}
use Rattle.jp_evaluate.specs.Private.Segments.{nodes_to_come}
use Rattle.jp_evaluate.proofs.Settling.Begun.{settled_to_come}
use Rattle.jp_evaluate.proofs.Walks.Kept.{keeps_none}
use Rattle.jp_evaluate.proofs.lent.LentNodes.begin.Goals as goal

pub returns-in_ok-query-clause-rest : goal.returns-in_ok-query-clause-rest
returns-in_ok-query-clause-rest g c =
    let m = g.V.Lent.meaning in
    let v = c.args.self.now in
    settled_to_come m c.in-Unsettled.query.now c.in_ok-query.query c.from.result v.evaluation.root
    c.in_ok-query.ensures.gives c.from.ensures.first c.from.ensures.frames
    ∙ ap (λ s. nodes_to_come m (m v.evaluation.root) s v.walk) (sym c.in-Unsettled.is)

pub returns-in_ok-query-clause-keeps : goal.returns-in_ok-query-clause-keeps
returns-in_ok-query-clause-keeps g c =
    keeps_none c.args.self.now.walk c.from.result c.from.ensures.kept
