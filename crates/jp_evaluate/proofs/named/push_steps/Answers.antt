use Rattle.std.proofs.Common.{◌≡◌, ◌+◌, ◌++◌, [], ◌∷◌, ap, drop, map, option_map, subst, sym, ◌∙◌}
use Rattle.std.proofs.lemmas.List.{drop_more, map-append}
use Rattle.jp_document.specs.Location.{owned_step, step_of}
use Rattle.jp_tree.specs.Views.{query_of}
use Rattle.jp_evaluate.proofs.Paths.Steps.{Continues, continues-next}
use Rattle.jp_evaluate.proofs.named.push_steps.Goals as goal

pub loop-segment-preserved : goal.loop-segment-preserved
loop-segment-preserved c =
    let q = query_of c.args.query.now in
    let xs = c.deref-segment-items.result.now in
    let i = c.loop-segment.segment-index in
    let s = c.segment-item.result in
    let ks = c.loop-segment.location.items in
    let l = map owned_step ks in
    let k = step_of c.in-Some.step in
    let rest = drop (i + 1) xs in
    let here : drop i xs ≡ s ∷ rest =
    drop_more xs i s c.loop-segment-test.true ∙ ap (λ t. t ∷ rest) (sym c.segment-item.is) in
    let grown : map owned_step c.push.new.self.items ≡ l ++ k ∷ [] =
    ap (map owned_step) c.in_ok-push.ensures.items ∙ map-append owned_step ks (c.in_ok-owned.field-0 ∷ [])
    ∙ ap (λ j. l ++ j ∷ []) c.in_ok-owned.ensures in
    subst (λ m. Continues q m rest) (sym grown)
    (continues-next q l s rest k (sym c.segment_step.ensures ∙ ap (option_map step_of) c.in-Some.is)
    (subst (Continues q l) here
    c.loop-segment.invariant))
