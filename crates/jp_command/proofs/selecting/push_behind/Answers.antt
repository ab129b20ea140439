use Rattle.std.proofs.Common.{length, subst}
use Rattle.jp_evaluate.specs.Lent.{rest_of}
use Rattle.jp_command.specs.Lines.{lines_of}
use Rattle.jp_command.specs.Selecting.{IsBeyond, first_nodes, nodes_behind}
use Rattle.jp_command.proofs.Limited.{err-is}
use Rattle.jp_command.proofs.selecting.push_behind.Goals as goal

pub returns-in_err-push_rest-clause-beyond : goal.returns-in_err-push_rest-clause-beyond
returns-in_err-push_rest-clause-beyond g c =
    let a = c.args in
    let nodes = nodes_behind a.from a.most (rest_of g.V.Lent.meaning a.nodes.now) in
    let fault = c.in_err-push_rest.field-0.0 in
    err-is c.from_residual-in_err-push_rest.result fault
    (IsBeyond a.limit (length nodes) (length (lines_of a.form nodes)))
    c.from_residual-in_err-push_rest.ensures.1
    (subst
    (λ ns. IsBeyond a.limit (length (first_nodes a.most ns)) (length (lines_of a.form (first_nodes a.most ns))) fault)
    c.in_ok-pass_over.ensures.rest c.in_err-push_rest.ensures.beyond)
