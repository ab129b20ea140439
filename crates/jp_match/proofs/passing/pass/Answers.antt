use Rattle.std.proofs.Common.{◌≡◌, ◌<◌, ◌≤◌, ℕ, Bool, false, List, get_or, length, refl, ◌∙◌, subst}
use Rattle.std.proofs.Common.{arith, add-one}
use Rattle.std.proofs.lemmas.List.{get_or_default}
use Rattle.jp_iregexp.specs.Tree.{Tree, tree}
use Rattle.jp_match.proofs.Sets.Spans.{Carries, Passes, carries_first, carries_more, carries_ends}
use Rattle.jp_match.proofs.Sets.Spans.{passes_first, passes_more, passes_all}
use Rattle.jp_match.proofs.passing.pass.Goals as goal

-- an offset that the loop has not come to is read as it was
unwritten : {t : Tree} {text : List ℕ} {from now : List Bool} {i : ℕ} (b : Bool) → i < length now
    → b ≡ get_or now i b → Passes t text from now i → b ≡ get_or from i false
unwritten {now = now} {i} b below is so_far =
    is ∙ get_or_default now i b false below ∙ so_far.left i (omega arith)

pub loop-i-init : goal.loop-i-init
loop-i-init c = record {
  same = c.in_ok-marking.ensures.of;
  carries = carries_first c.in_ok-marking.ensures.none;
  passes = passes_first;
  text = refl;
  kept = omega arith;
}

pub loop-i-preserved : goal.loop-i-preserved
loop-i-preserved c =
    let i = c.loop-i.i in
    let text = c.args.search.now.ground.text.now in
    let passes = c.loop-i.invariant.passes in
    let inside : i < length text = omega arith in
    let below : i < length c.loop-i.search.offsets.items = omega (
      arith,
      passes.same_length,
      c.args.search.now.sized,
    ) in
    let at = unwritten _ below c.index-entered.ensures passes in
    let is = c.index-text-i.is ∙ get_or_default text i c.index-text-i.result 0 inside in
    let step = rw c.loop-i.invariant.same at c.step.ensures.step in
    let within : i ≤ length text = omega arith in
    record {
      same = c.step.ensures.same ∙ c.loop-i.invariant.same;
      carries = rw add-one (carries_more inside is at c.loop-i.invariant.carries step);
      passes = rw add-one (passes_more below (carries_ends within at c.loop-i.invariant.carries
          step.ends) passes);
      text = c.loop-i.invariant.text;
      kept = omega arith;
    }

pub returns : goal.returns
returns c =
    let t = tree c.args.pattern.now in
    let text = c.args.search.now.ground.text.now in
    let first = c.args.search.now.offsets.items in
    let end : c.loop-i.i ≡ length text = omega arith in
    let passes = subst (Passes t text first c.loop-i.search.offsets.items) end
    c.loop-i.invariant.passes in
    let carries = subst (λ i. Carries t text first i c.loop-i.marking.sweep.marks.items) end
    c.loop-i.invariant.carries in
    let below : length text < length c.loop-i.search.offsets.items = omega (
      arith,
      passes.same_length,
      c.args.search.now.sized,
    ) in
    let at = unwritten _ below c.index-entered-2.ensures passes in
    let ends = rw c.loop-i.invariant.same at c.ends.ensures in
    let within : length text ≤ length text = omega arith in
    record {
      text = c.loop-i.invariant.text;
      image = passes_all c.args.search.now.sized (passes_more below (carries_ends within at carries
          ends) passes);
      kept = omega arith;
    }
