use Rattle.std.proofs.Common.{◌≡◌, ◌+◌, ◌-◌, ◌<◌, suc, drop, map, length, inl, inr, refl, sym, ap, ◌∙◌}
use Rattle.std.proofs.Common.{subst, arith}
use Rattle.std.proofs.lemmas.Result.{on_ok_weaker}
use Rattle.jp_iregexp.specs.Tree.{tree, branches, pieces}
use Rattle.jp_iregexp.specs.Language.{Language, Power}
use Rattle.jp_iregexp.proofs.Trees.{tree_class}
use Rattle.jp_match.specs.Private.Rows.{parts_of}
use Rattle.jp_match.proofs.Patterns.Variants.{either_is, sequence_is, repeat_is}
use Rattle.jp_match.proofs.Patterns.Items.{drop_item, drop_all}
use Rattle.jp_match.proofs.Sets.Cuts.{marked_below}
use Rattle.jp_match.proofs.Sets.Reaching.{Completes, Covers, completes_more, completes_all}
use Rattle.jp_match.proofs.Sets.Reaching.{covers_more}
use Rattle.jp_match.proofs.Sets.Repeats.{leads_repeat, settled_ends}
use Rattle.jp_match.proofs.Sets.Growing.{grows_more, grows_all, grows_last, absent_falls}
use Rattle.jp_match.proofs.Sets.Rowwise.{parts_branches, parts_pieces, image_rows, known_as}
use Rattle.jp_match.proofs.Sets.Rowwise.{rows_when_known}
use Rattle.jp_match.proofs.images.+images.Goals as goal
use Rattle.jp_match.proofs.images.+images.Goals.{at_most_image-else-loop-left-test}
use Rattle.jp_match.proofs.images.+images.Goals.{at_most_image-then-loop-left-test+in_default}
use Rattle.jp_match.proofs.images.+images.Goals.{exactly_image-else-loop-test}
use Rattle.jp_match.proofs.images.+images.Goals.{exactly_image-then-loop-test+in_ok-part_image+then-is_settled}

pub at_most_image-loop-left-smaller : goal.at_most_image-loop-left-smaller
at_most_image-loop-left-smaller t c =
    let any = rw c.deref.ensures.value at (c.is_any.ensures.0 c.loop-left-test.true) in
    let both = rw c.deref-in-loop-left.ensures.value at c.unite.ensures in
    let grows = c.loop-left.invariant in
    let old = c.loop-left.reached.items in
    let below : any.0 < length old = omega (
      arith,
      grows.long,
      marked_below c.loop-left.search.offsets.items any.0 any.1,
    ) in
    rw both.same_length (absent_falls old c.unite.new.offsets.items (λ k m. (both.each k).1 (inl m))
    (length old) any.0 below ((both.each any.0).1 (inr any.1)) (grows.apart any.0 any.1))

pub at_most_image-loop-left-preserved : goal.at_most_image-loop-left-preserved
at_most_image-loop-left-preserved t c =
    let both = rw c.deref-in-loop-left.ensures.value at c.unite.ensures in
    let rest = rw c.deref-in-loop-left-2.ensures.value at c.remove.ensures in
    grows_more c.loop-left.invariant c.in-Some.ensures both c.in_ok-part_image.ensures rest refl refl

pub at_most_image-returns : goal.at_most_image-returns
at_most_image-returns t c =
    (elim c.loop-left-test.branch [
      | at_most_image-else-loop-left-test w ↦
          let any = rw c.deref.ensures.value at c.is_any.ensures.1 in
          grows_all c.loop-left.invariant (λ offset m. let is = any (offset, m) in
          let not = w.loop-left-test.false in cc) (ap (λ v. v.items) (c.swap.ensures.x_after ∙
          w.reached-is)) refl refl
      | at_most_image-then-loop-left-test+in_default w ↦
          let both = rw w.deref-in-loop-left.ensures.value at w.unite.ensures in
          grows_last c.loop-left.invariant w.in_default.ensures both (ap (λ v. v.items)
          (c.swap.ensures.x_after ∙ w.reached-is)) refl refl
    ])

pub either_image-loop-i-preserved : goal.either_image-loop-i-preserved
either_image-loop-i-preserved t c =
    let item = drop_item c.args.parts.now c.loop-i.i c.index-parts-i.result
    c.loop-i-test.true c.index-parts-i.is in
    let both = rw c.deref-in-loop-i.ensures.value at c.unite.ensures in
    let start = c.assign.ensures ∙ c.loop-i.invariant.from in
    record {
      from = c.loop-i.invariant.from;
      covers = covers_more (subst (λ ps. Covers (Language (branches (map tree c.args.parts.now)))
          (Language (branches (map tree ps))) c.args.search.now c.loop-i.search
          c.loop-i.reached.items) item c.loop-i.invariant.covers) refl start refl
          c.in_ok-part_image.ensures both;
    }

pub exactly_image-loop-preserved : goal.exactly_image-loop-preserved
exactly_image-loop-preserved t c =
    let L = Language (tree c.args.inner.now) in
    let fewer : c.args.count - c.loop.counter ≡ suc (c.args.count - (c.loop.counter + 1)) = omega
    arith in
    record {
      before = c.assign.ensures;
      completes = completes_more (subst (λ n. Completes (Power L c.args.count) (Power L n)
          c.args.search.now c.loop.search) fewer c.loop.invariant.completes)
          c.in_ok-part_image.ensures;
    }

pub exactly_image-returns : goal.exactly_image-returns
exactly_image-returns t c =
    let L = Language (tree c.args.inner.now) in
    (elim c.loop-test.branch [
      | exactly_image-else-loop-test w ↦
          let none : c.args.count - c.loop.counter ≡ 0 = omega arith in
          rw w.search-is (completes_all (subst (λ n. Completes (Power L c.args.count) (Power L n)
          c.args.search.now c.loop.search) none c.loop.invariant.completes))
      | exactly_image-then-loop-test+in_ok-part_image+then-is_settled w ↦
          let end = rw (
            w.deref-in-loop.ensures.value,
            w.deref-in-loop-2.ensures.value,
            c.loop.invariant.before,
          ) at (w.is_settled.ensures.0 w.if-is_settled.true) in
          let more : c.args.count - c.loop.counter ≡ suc (c.args.count - (c.loop.counter + 1)) =
          omega arith in
          rw w.search-is (settled_ends _ _ end more w.in_ok-part_image.ensures
          c.loop.invariant.completes)
    ])

pub image-returns-in-Either : goal.image-returns-in-Either
image-returns-in-Either t c =
    rw (either_is _ _ _ c.in-Either.is c.deref.ensures.value).same c.either_image.ensures

pub image-returns-in-Sequence : goal.image-returns-in-Sequence
image-returns-in-Sequence t c =
    rw (sequence_is _ _ _ c.in-Sequence.is c.deref-in-Sequence.ensures.value).same
    c.sequence_image.ensures

pub image-returns-in-Repeat-2 : goal.image-returns-in-Repeat-2
image-returns-in-Repeat-2 t c =
    rw (repeat_is _ _ _ _ _ c.in-Repeat-2.is c.deref-in-Repeat-2.ensures).same
    c.repeat_image.ensures

pub image-returns-in-Class : goal.image-returns-in-Class
image-returns-in-Class t c = record {
  text = refl;
  image = rw (c.in-Class.is, tree_class) c.shift.ensures.image;
  kept = c.shift.ensures.tests.kept;
}

pub repeat_image-returns : goal.repeat_image-returns
repeat_image-returns t c =
    leads_repeat _ _ _ _ c.in-Some.ensures c.in_ok-exactly_image.ensures c.at_most_image.ensures

pub sequence_image-loop-i-preserved : goal.sequence_image-loop-i-preserved
sequence_image-loop-i-preserved t c =
    let item = drop_item c.args.parts.now c.loop-i.i c.index-parts-i.result
    c.loop-i-test.true c.index-parts-i.is in
    completes_more (subst (λ ps. Completes (Language (pieces (map tree c.args.parts.now))) (Language
    (pieces (map tree ps))) c.args.search.now c.loop-i.search) item c.loop-i.invariant)
    c.in_ok-part_image.ensures

pub sequence_image-returns : goal.sequence_image-returns
sequence_image-returns t c =
    let end : c.loop-i.i ≡ length c.args.parts.now = omega arith in
    let none = ap (λ n. drop n c.args.parts.now) end ∙ drop_all c.args.parts.now in
    completes_all (subst (λ ps. Completes (Language (pieces (map tree c.args.parts.now))) (Language
    (pieces (map tree ps))) c.args.search.now c.loop-i.search) none c.loop-i.invariant)

pub part_image-returns : goal.part_image-returns
part_image-returns t c = record {
  text = refl;
  image = on_ok_weaker c.follow.result (image_rows c.args.search.now.sized (rows_when_known _
      (sym c.if-is_empty.false ∙ c.is_empty.ensures) c.requires)) c.follow.ensures.union;
  kept = omega arith;
}

pub image-either_image-requires : goal.image-either_image-requires
image-either_image-requires t c =
    let is = either_is _ _ _ c.in-Either.is c.deref.ensures.value in (
      omega (arith, c.decreases, is.smaller),
      known_as (ap parts_of is.same ∙ parts_branches _) c.requires,
    )

pub image-sequence_image-requires : goal.image-sequence_image-requires
image-sequence_image-requires t c =
    let is = sequence_is _ _ _ c.in-Sequence.is c.deref-in-Sequence.ensures.value in (
      omega (arith, c.decreases, is.smaller),
      known_as (ap parts_of is.same ∙ parts_pieces _) c.requires,
    )

pub image-repeat_image-requires : goal.image-repeat_image-requires
image-repeat_image-requires t c =
    let is = repeat_is _ _ _ _ _ c.in-Repeat-2.is c.deref-in-Repeat-2.ensures in
    (omega (arith, c.decreases, is.smaller), known_as (ap parts_of is.same) c.requires)
