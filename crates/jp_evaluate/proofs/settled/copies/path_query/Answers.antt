use Rattle.std.proofs.Common.{◌≡◌, ap, map, rules, ◌∙◌}
use Rattle.jp_document.specs.Location.{step_of}
use Rattle.jp_tree.specs.declared.tree.Query.{the_lemmas}
use Rattle.jp_tree.specs.Tree.{segments}
use Rattle.jp_tree.specs.Views.{segment_of}
use Rattle.jp_evaluate.specs.Private.PathTrees.{step_segment}
use Rattle.jp_evaluate.proofs.Settling.Lists.{made_all, path_made}
use Rattle.jp_evaluate.proofs.settled.copies.path_query.Goals as goal

pub returns : goal.returns
returns c =
    let ks = c.args.location.now in
    let made : segments (map segment_of c.loop-step.segments.items)
    ≡ segments (map step_segment (map step_of ks)) =
    ap segments
    (made_all segment_of (λ k. step_segment (step_of k)) c.loop-step.segments.items ks
    c.loop-step.step-index c.loop-step-test.false c.loop-step.invariant
    ∙ path_made ks) in
    search (rules, the_lemmas)
