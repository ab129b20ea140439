use Rattle.std.proofs.Common.{◌∙◌, ap, length}
use Rattle.jp_tree.specs.Views.{query_of}
use Rattle.jp_evaluate.specs.Nodelist.{nodelist}
use Rattle.jp_command.specs.Selecting.{first_nodes}
use Rattle.jp_lines.proofs.Within.{first_within}
use Rattle.jp_lines.proofs.wanted.make_wanted.Goals as goal

pub returns-in_ok-lines-in-Nodes-clause-count : goal.returns-in_ok-lines-in-Nodes-clause-count
returns-in_ok-lines-in-Nodes-clause-count g c =
    let ns = nodelist (query_of c.args.selection.query.now.query) (g.V.Lent.meaning c.args.root) in
    c.in_ok-lines-in-Nodes.ensures.count
    ∙ ap (λ most. length (first_nodes most ns)) c.most_within.ensures
    ∙ ap length (first_within c.args.selection.extent ns)
