use Rattle.std.proofs.Common.{◌≡◌, ◌+◌, ◌++◌, [], ◌∷◌, ap, drop, option_map, subst, sym, ◌∙◌, arith}
use Rattle.std.proofs.lemmas.List.{drop_more, length_push}
use Rattle.std.proofs.lemmas.List.Sums.{sum_by_push}
use Rattle.jp_document.specs.Location.{step_of}
use Rattle.jp_tree.specs.Views.{query_of}
use Rattle.jp_select.proofs.Stepping.{takes_then}
use Rattle.jp_evaluate.specs.Private.Compared.{name_steps}
use Rattle.jp_evaluate.proofs.Paths.Steps.{Continues, continues-next}
use Rattle.jp_evaluate.proofs.compared.take_named.Goals as goal

pub loop-segment-preserved : goal.loop-segment-preserved
loop-segment-preserved c =
    let was = c.loop-segment.invariant in
    let q = query_of c.args.query.now in
    let xs = c.deref-segment-items.result.now in
    let i = c.loop-segment.segment-index in
    let s = c.segment-item.result in
    let k = step_of c.in-Some.step in
    let rest = drop (i + 1) xs in
    let here : drop i xs ≡ s ∷ rest =
    drop_more xs i s c.loop-segment-test.true ∙ ap (λ t. t ∷ rest) (sym c.segment-item.is) in
    let more = sum_by_push name_steps was.front k in
    record {
      front = was.front ++ k ∷ [];
      long = length_push was.front k ∙ ap (λ n. n + 1) was.long;
      continues =
          continues-next q was.front s rest k (sym c.segment_step.ensures ∙ ap (option_map step_of) c.in-Some.is)
          (subst (Continues q was.front) here was.continues);
      takes = takes_then was.takes c.take_many-in-loop-segment.ensures.takes;
      counts = record {
        many = λ limited.
            let before = was.counts.many limited in
            let now = c.in_ok-take_many-2.ensures.counts.many (was.takes.same ∙ limited) in
            omega (arith, c.name_steps.ensures);
      };
    }
