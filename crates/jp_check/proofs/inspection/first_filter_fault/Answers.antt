use Rattle.std.proofs.Common.{refl}
use Rattle.jp_query.specs.Components.{expr_components}
use Rattle.jp_tree.specs.Views.{expr_of}
use Rattle.jp_check.proofs.Least.{found}
use Rattle.jp_check.proofs.inspection.first_filter_fault.Goals as goal

pub returns : goal.returns
returns c =
    let spelled = rw c.spans.ensures.same at c.spans.ensures.each in
    found c.args.profile spelled.0
    (expr_components
    (expr_of c.args.parsed.now.expr)) c.args.parsed.now.spans c.first.result spelled.2.each
    (rw (
      c.first.ensures,
      c.expr-2.ensures,
      c.new-inspection.ensures,
      c.spans.ensures.same,
      c.expr.ensures.same,
    ) refl)
