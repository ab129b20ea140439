use Rattle.jsonpath_uses.specs.Caret.{column_of, text_at}
use Rattle.jsonpath_uses.proofs.Carets.{at_column}
use Rattle.jsonpath_uses.proofs.caret.show_refusal.Goals as goal

pub returns : goal.returns
returns c =
    at_column (λ n. text_at c.args.query.now n c.args.refusal) c.column.result
    (column_of c.args.query.now c.args.refusal.place) c.show_at.result c.show_at.ensures
    c.column.ensures
