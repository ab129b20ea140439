use Rattle.std.proofs.Common.{◌∷◌, Some, ap, sym, ◌∙◌}
use Rattle.jp_document.specs.Node.{node_at, root_of}
use Rattle.jp_tree.specs.declared.tree.Query.{out-Query}
use Rattle.jp_evaluate.specs.Private.Settled.{only_node}
use Rattle.jp_evaluate.specs.Private.Walk.{reached_node}
use Rattle.jp_evaluate.proofs.Settling.Begun.{at_the_root}
use Rattle.jp_evaluate.proofs.Walks.Selects.{begun_to_come}
use Rattle.jp_evaluate.proofs.evaluating.Evaluation.only_node.Goals as goal

pub returns-in_default-clause-gives : goal.returns-in_default-clause-gives
returns-in_default-clause-gives g c =
    let m = g.V.Lent.meaning in
    let q = c.args.nodes.query.now in
    let d = m c.args.self.now.root in
    let new = c.from-selecting.ensures in
    let begun =
    begun_to_come m q d (root_of d) c.from-selecting.result c.args.self.now.root
    c.args.nodes.distinct new.segments (at_the_root (out-Query q).absolute d) new.first new.frames
    new.seen in
    let none = rw c.in_default.is at c.in_ok-reached.ensures.gives in
    sym (ap only_node (sym begun ∙ none.0))

pub returns-in-Some-2-clause-gives : goal.returns-in-Some-2-clause-gives
returns-in-Some-2-clause-gives g c =
    let m = g.V.Lent.meaning in
    let q = c.args.nodes.query.now in
    let d = m c.args.self.now.root in
    let new = c.from-selecting.ensures in
    let begun =
    begun_to_come m q d (root_of d) c.from-selecting.result c.args.self.now.root
    c.args.nodes.distinct new.segments (at_the_root (out-Query q).absolute d) new.first new.frames
    new.seen in
    let first = rw c.in-Some.is at c.in_ok-reached.ensures.gives in
    let second = rw c.in-Some-2.is at c.in_ok-next.ensures.gives in
    sym
    (ap only_node
    (sym begun ∙ first ∙ ap (λ ns. reached_node m c.next.new.self.walk c.in-Some.reached ∷ ns) second))

pub returns-clause-gives : goal.returns-clause-gives
returns-clause-gives g c =
    let m = g.V.Lent.meaning in
    let q = c.args.nodes.query.now in
    let d = m c.args.self.now.root in
    let new = c.from-selecting.ensures in
    let begun =
    begun_to_come m q d (root_of d) c.from-selecting.result c.args.self.now.root
    c.args.nodes.distinct new.segments (at_the_root (out-Query q).absolute d) new.first new.frames
    new.seen in
    let first = rw c.in-Some.is at c.in_ok-reached.ensures.gives in
    let second = rw c.in-None.is at c.in_ok-next.ensures.gives in
    ap (λ l. Some (node_at l (m c.in-Some.reached.value))) c.in_ok-location.ensures
    ∙ sym
    (ap only_node
    (sym begun ∙ first
    ∙ ap (λ ns. reached_node m c.next.new.self.walk c.in-Some.reached ∷ ns) second.0))
