use Rattle.std.proofs.Common.{◌≡◌, ◌+◌, ◌<◌, ◌^◌, length, map, refl, ap, sym, ◌∙◌, arith, rules}
use Rattle.jp_tree.specs.Tree.{selectors}
use Rattle.jp_tree.specs.Views.{selector_of}
use Rattle.jp_tree.specs.declared.tree.Segment.{out-Segment}
use Rattle.jp_evaluate.specs.Cost.{entering_cost, selector_count}
use Rattle.jp_evaluate.proofs.Walks.Costs.{counts-selectors}
use Rattle.jp_evaluate.proofs.Walks.Turns.{left_there}
use Rattle.jp_evaluate.proofs.walk.turn_count.Goals as goal

pub returns-in-Some : goal.returns-in-Some
returns-in-Some c =
    let s = c.in-Some.segment.now in
    let all = c.args.segments.now in
    let xs = (out-Segment s).selectors.items in
    let there =
    left_there all c.args.done s xs c.in-Some.ensures.lookup.3.0 c.in-Some.ensures.lookup.1 refl in
    let long : c.len.result ≡ length xs = c.len.ensures ∙ s.selectors.ok.0 in
    let small : c.len.result < 2 ^ 63 = search rules in
    let count = counts-selectors xs in
    let is : c.saturating_add.result ≡ selector_count (selectors (map selector_of xs)) + 2 =
    omega (arith, c.saturating_add.ensures) in
    is ∙ sym (ap entering_cost there)
