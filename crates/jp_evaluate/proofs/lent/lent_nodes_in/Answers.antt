use Rattle.jp_evaluate.proofs.Settling.Begun.{all_to_come}
use Rattle.jp_evaluate.proofs.lent.lent_nodes_in.Goals as goal
use Rattle.std.proofs.Common.{subst}
use Rattle.jp_evaluate.specs.Private.Segments.{AreOf}

pub returns-clause-nodes : goal.returns-clause-nodes
returns-clause-nodes g c =
    let q = c.args.query.now.query in
    all_to_come g.V.Lent.meaning c.of.result q c.within.result c.args.root
    (subst (AreOf c.of.result) c.query.ensures.same c.of.ensures) c.within.ensures.first
    c.within.ensures.frames
