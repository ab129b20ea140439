use Rattle.std.proofs.Common.{refl}
use Rattle.jp_query.specs.Components.{components_of}
use Rattle.jp_tree.specs.Views.{query_of}
use Rattle.jp_check.proofs.Least.{found}
use Rattle.jp_check.proofs.inspection.first_fault.Goals as goal

pub returns : goal.returns
returns c =
    let spelled = rw c.spans.ensures.same at c.spans.ensures.each in
    found c.args.profile spelled.0
    (components_of
    (query_of c.args.parsed.now.query)) c.args.parsed.now.spans c.first.result spelled.2.each
    (rw (
      c.first.ensures,
      c.query-2.ensures,
      c.new-inspection.ensures,
      c.spans.ensures.same,
      c.query.ensures.same,
    ) refl)
