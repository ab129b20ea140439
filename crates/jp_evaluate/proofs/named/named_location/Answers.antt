use Rattle.jp_tree.specs.Views.{query_of}
use Rattle.jp_evaluate.proofs.Paths.Steps.{named_if}
use Rattle.jp_evaluate.proofs.named.named_location.Goals as goal

pub returns-then-branch-clause-names : goal.returns-then-branch-clause-names
returns-then-branch-clause-names c =
    named_if c.in_ok-push_steps.field-0 _ (query_of c.args.query.now.query)
    (rw c.query-query.ensures.same at c.in_ok-push_steps.ensures) c.if-branch.true
