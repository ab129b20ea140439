use Rattle.std.proofs.Common.{◌≡◌, ◌≤◌, ◌<◌, ◌+◌, ◌∷◌, suc, Some, drop, length, sym, ap, ◌∙◌, arith}
use Rattle.std.specs.List.{slice_get}
use Rattle.std.proofs.lemmas.Option.{slice_get_within}
use Rattle.jp_document.specs.Location.{entries}
use Rattle.jp_lent.specs.Lending.{step_with}
use Rattle.jp_select.proofs.Walks.{drop_at}
use Rattle.jp_evaluate.specs.Private.Walk.{IsLeaf}
use Rattle.jp_evaluate.proofs.Walks.Leaves.{no_entries}
use Rattle.jp_evaluate.proofs.Walks.Skipping.{skips-more, skips-none, skips-same}
use Rattle.jp_evaluate.proofs.walk.past_leaves.Goals as goal

pub leaves-init : goal.leaves-init
leaves-init g c = record {
  onward = omega arith;
  leaves = skips-none IsLeaf (drop c.args.from (entries (g.V.Lent.meaning c.args.value)));
}

pub leaves-preserved : goal.leaves-preserved
leaves-preserved g c =
    let es = entries (g.V.Lent.meaning c.args.value) in
    let e = step_with g.V.Lent.meaning c.in-Some.child in
    let i = c.leaves.position in
    let there : slice_get es i ≡ Some e = sym c.in-Some.ensures.entry in
    let next : suc i ≡ i + 1 = omega arith in
    let none : length (entries e.1) ≤ 0 = omega (arith, c.if-count-gt0.false, c.count.ensures) in
    let was = c.leaves.invariant.onward in
    record {
      onward = omega arith;
      leaves =
          skips-more IsLeaf (drop c.args.from es) (drop (i + 1) es) e
          (skips-same IsLeaf (drop c.args.from es) (drop i es) (e ∷ drop (i + 1) es) c.leaves.invariant.leaves
          (drop_at es i e there ∙ ap (λ n. e ∷ drop n es) next))
          (no_entries e.1 none);
    }

pub leaves-smaller : goal.leaves-smaller
leaves-smaller g c =
    let es = entries (g.V.Lent.meaning c.args.value) in
    let e = step_with g.V.Lent.meaning c.in-Some.child in
    let within : c.leaves.position < length es =
    slice_get_within es c.leaves.position e (sym c.in-Some.ensures.entry) in
    omega arith
