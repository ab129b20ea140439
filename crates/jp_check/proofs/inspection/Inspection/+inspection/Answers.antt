use Rattle.std.proofs.Common.{◌≡◌, ◌∙◌, slice_get, rules}
use Rattle.jp_check.proofs.Calls.{copied_component}
use Rattle.jp_check.proofs.PastComponents.{arguments-on, exprs-on, segments-on, selectors-on, sides-on}
use Rattle.jp_check.proofs.PastComponents.{types-kept}
use Rattle.jp_check.proofs.inspection.Inspection.+inspection.Goals as goal

pub query-loop-segment-preserved : goal.query-loop-segment-preserved
query-loop-segment-preserved t c = search (rules, segments-on)

pub segment-loop-selector-preserved : goal.segment-loop-selector-preserved
segment-loop-selector-preserved t c = search (rules, selectors-on)

pub parts-loop-part-preserved : goal.parts-loop-part-preserved
parts-loop-part-preserved t c = search (rules, exprs-on)

pub expr-returns-in-Compare : goal.expr-returns-in-Compare
expr-returns-in-Compare t c = search (rules, sides-on)

pub call-loop-index-preserved : goal.call-loop-index-preserved
call-loop-index-preserved t c =
    let want : c.copied.result
    ≡ slice_get c.wanted_of_arguments-types.result.now c.loop-index.index =
    c.copied.ensures
    ∙ copied_component c.wanted_of_arguments-types.result.now c.loop-index.index c.get.result
    c.get.ensures.lookup in
    (search (rules, types-kept), search (rules, want, arguments-on))
