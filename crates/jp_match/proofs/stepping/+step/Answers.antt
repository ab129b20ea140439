use Rattle.std.proofs.Common.{◌≡◌, ℕ, ◌+◌, ◌≤◌, ◌<◌, Bool, false, ◌||◌, List, length, drop, take}
use Rattle.std.proofs.Common.{refl, sym, ap}
use Rattle.std.proofs.Common.{◌-◌, ◌++◌}
use Rattle.std.proofs.Common.{◌∙◌, subst, arith, rules}
use Rattle.std.proofs.lemmas.Bool.{leb-true, le-leb}
use Rattle.std.proofs.lemmas.List.{get_or_default, with_items_is}
use denote.Param.Weighed.{at_most}
use Rattle.jp_iregexp.proofs.pattern.Pattern.TheLaws.{the_size}
use Rattle.jp_iregexp.specs.declared.class.ClassElement.{ClassElement}
use Rattle.jp_iregexp.specs.Tree.{Tree, tree, class as class_tree}
use Rattle.jp_iregexp.proofs.Trees.{tree_class}
use Rattle.jp_match.specs.declared.sweep.Sweep.{Sweep}
use Rattle.jp_match.specs.Private.Plain.{class, plus, unrolled, counted}
use Rattle.jp_match.specs.Private.Marks.{size}
use Rattle.jp_match.specs.Private.Sweeps.{own_rounds, IsBefore}
use Rattle.jp_match.proofs.Bools.{is_false}
use Rattle.jp_match.proofs.Patterns.Variants.{either_is, sequence_is, repeat_is}
use Rattle.jp_match.proofs.Patterns.Items.{drop_item, drop_all}
use Rattle.jp_match.proofs.Steps.Copies.{copies_fit, moves_copies, put_length}
use Rattle.jp_match.proofs.Steps.Idle.{moves_idle_part, moves_idle_next, moves_unmarked}
use Rattle.jp_match.proofs.Steps.Idle.{takes_empty}
use Rattle.jp_match.proofs.Steps.Sweeping.{moves_entered}
use Rattle.jp_match.proofs.Steps.Sweeping.{before_branch, before_piece, swept_next_branch}
use Rattle.jp_match.proofs.Steps.Sweeping.{swept_next_piece, swept_branches, swept_pieces}
use Rattle.jp_match.proofs.Steps.Repeating.{swept_begin}
use Rattle.jp_match.proofs.Steps.Repeating.{before_copy, swept_copy, swept_copies, swept_still}
use Rattle.jp_match.proofs.Steps.Repeating.{before_goes_on, swept_goes_on, before_plus}
use Rattle.jp_match.proofs.Steps.Repeating.{swept_plus}
use Rattle.jp_match.proofs.Steps.Repeating.{before_star, moves_star, before_still}
use Rattle.jp_match.proofs.Steps.Repeating.{swept_still_plus}
use Rattle.jp_match.proofs.Steps.Rounding.{moves_class_plus, before_inner}
use Rattle.jp_match.proofs.Steps.Rounding.{moves_idle, moves_rounds}
use Rattle.jp_match.proofs.Steps.Sizes.{own_other}
use Rattle.jp_match.proofs.stepping.+step.Goals as goal

pub step-step_either-requires : goal.step-step_either-requires
step-step_either-requires t c =
    let is = either_is _ _ _ c.in-Either.is c.deref.ensures.value in (
      omega (arith, c.decreases, is.smaller),
      subst (λ t. IsBefore (unrolled t) c.args.sweep.now) is.same c.requires,
    )

pub step-step_sequence-requires : goal.step-step_sequence-requires
step-step_sequence-requires t c =
    let is = sequence_is _ _ _ c.in-Sequence.is c.deref-in-Sequence.ensures.value in (
      omega (arith, c.decreases, is.smaller),
      subst (λ t. IsBefore (unrolled t) c.args.sweep.now) is.same c.requires,
    )

pub step-step_repeat-requires : goal.step-step_repeat-requires
step-step_repeat-requires t c =
    let is = repeat_is _ _ _ _ _ c.in-Repeat.is c.deref-in-Repeat.ensures in (
      omega (arith, c.decreases, is.smaller),
      subst (λ t. IsBefore (unrolled t) c.args.sweep.now) is.same c.requires,
    )

pub step-step_class-requires : goal.step-step_class-requires
unfolding unrolled
step-step_class-requires t c =
    subst (λ t. IsBefore (unrolled t) c.args.sweep.now) (ap tree c.in-Class.is ∙ tree_class
    c.in-Class.class) c.requires

pub step-returns-in-Either : goal.step-returns-in-Either
step-returns-in-Either t c =
    rw (either_is _ _ _ c.in-Either.is c.deref.ensures.value).same c.step_either.ensures

pub step-returns-in-Sequence : goal.step-returns-in-Sequence
step-returns-in-Sequence t c =
    rw (sequence_is _ _ _ c.in-Sequence.is c.deref-in-Sequence.ensures.value).same c.step_sequence.ensures

pub step-returns-in-Repeat : goal.step-returns-in-Repeat
step-returns-in-Repeat t c =
    rw (repeat_is _ _ _ _ _ c.in-Repeat.is c.deref-in-Repeat.ensures).same c.step_repeat.ensures

pub step-returns-in-Class : goal.step-returns-in-Class
unfolding unrolled
step-returns-in-Class t c = rw (c.in-Class.is, tree_class) c.step_class.ensures

pub step-returns : goal.step-returns
step-returns t c =
    rw c.if-not-entered.true (moves_idle_part c.in-Some.ensures c.requires.so)

pub step_next-returns-then-is_idle_class : goal.step_next-returns-then-is_idle_class
step_next-returns-then-is_idle_class t c =
    rw c.none.ensures (moves_idle_next (is_false _ c.if-not-through.true) (c.is_idle_class.ensures
    c.if-is_idle_class.true) c.requires.so)

pub step_next-returns : goal.step_next-returns
step_next-returns t c = rw c.then.ensures (moves_entered {e = c.args.through} c.step.ensures)

pub step_either-step-requires : goal.step_either-step-requires
step_either-step-requires t c =
    let item = drop_item c.args.parts.now c.loop-branch.branch-index c.branch-item.result
    c.loop-branch-test.true c.branch-item.is in
    let before = rw item at c.loop-branch.invariant.before in
    let few = at_most the_size c.args.parts.now c.loop-branch.branch-index c.branch-item.result
    c.loop-branch-test.true in (
      omega (arith, c.decreases, few, ap the_size c.branch-item.is),
      before_branch _ _ before,
    )

pub step_either-loop-branch-preserved : goal.step_either-loop-branch-preserved
step_either-loop-branch-preserved t c =
    let item = drop_item c.args.parts.now c.loop-branch.branch-index c.branch-item.result
    c.loop-branch-test.true c.branch-item.is in
    let so_far = rw item at c.loop-branch.invariant in
    rw c.or-ended.ensures (swept_next_branch _ _ so_far c.step.ensures)

pub step_either-returns : goal.step_either-returns
step_either-returns t c =
    let end : c.loop-branch.branch-index ≡ length c.args.parts.now = omega arith in
    let none = ap (λ n. drop n c.args.parts.now) end ∙ drop_all c.args.parts.now in
    swept_branches (rw none at c.loop-branch.invariant)

pub step_sequence-step_next-through-requires : goal.step_sequence-step_next-through-requires
step_sequence-step_next-through-requires t c =
    let item = drop_item c.args.parts.now c.loop-piece.piece-index c.piece-item.result
    c.loop-piece-test.true c.piece-item.is in
    let before = rw item at c.loop-piece.invariant.before in
    let few = at_most the_size c.args.parts.now c.loop-piece.piece-index c.piece-item.result
    c.loop-piece-test.true in (
      omega (arith, c.decreases, few, ap the_size c.piece-item.is),
      before_piece _ _ before,
    )

pub step_sequence-loop-piece-preserved : goal.step_sequence-loop-piece-preserved
step_sequence-loop-piece-preserved t c =
    let item = drop_item c.args.parts.now c.loop-piece.piece-index c.piece-item.result
    c.loop-piece-test.true c.piece-item.is in
    let so_far = rw item at c.loop-piece.invariant in
    swept_next_piece _ _ so_far c.step_next-through.ensures

pub step_sequence-returns : goal.step_sequence-returns
step_sequence-returns t c =
    let end : c.loop-piece.piece-index ≡ length c.args.parts.now = omega arith in
    let none = ap (λ n. drop n c.args.parts.now) end ∙ drop_all c.args.parts.now in
    swept_pieces (rw none at c.loop-piece.invariant)

pub step_repeat-step_between-requires : goal.step_repeat-step_between-requires
unfolding unrolled counted
step_repeat-step_between-requires t c = (
  search rules,
  rw c.in-Some.is at c.requires,
)

pub step_repeat-step_plus-requires : goal.step_repeat-step_plus-requires
unfolding unrolled counted
step_repeat-step_plus-requires t c = (
  search rules,
  before_star (rw (c.in-None.is, c.if-least-eq0.true) at c.requires),
)

pub step_repeat-step_at_least-requires : goal.step_repeat-step_at_least-requires
unfolding unrolled counted
step_repeat-step_at_least-requires t c = (
  search rules,
  (rw c.in-None-2.is at c.requires, omega arith),
)

pub step_repeat-returns-in-Some : goal.step_repeat-returns-in-Some
unfolding unrolled counted
step_repeat-returns-in-Some t c = rw c.in-Some.is c.step_between.ensures

pub step_repeat-returns-in-None : goal.step_repeat-returns-in-None
unfolding unrolled counted
step_repeat-returns-in-None t c = rw (
  c.in-None.is,
  c.if-least-eq0.true,
  c.or.ensures,
  c.at_start.ensures,
) (moves_star c.step_plus.ensures)

pub step_repeat-returns-in-None-2 : goal.step_repeat-returns-in-None-2
unfolding unrolled counted
step_repeat-returns-in-None-2 t c = rw c.in-None-2.is c.step_at_least.ensures

pub step_copies-step_copy-requires : goal.step_copies-step_copy-requires
step_copies-step_copy-requires t c = (
  search rules,
  (
    before_copy c.args.least c.args.most c.loop-copies.copies c.loop-copies-test.true
        c.loop-copies.invariant.swept.before,
    c.loop-copies.invariant.sized,
  ),
)

pub step_copies-loop-copies-init : goal.step_copies-loop-copies-init
step_copies-loop-copies-init t c = record {
  swept = rw (c.at_start-through.ensures, c.none-ended.ensures) (swept_begin _ c.args.least
      c.args.most c.requires);
  sized = record {
    positions_so = λ some. absurd (omega (arith, some, c.unknown-size.ensures));
    rounds_so = λ some. absurd (omega (arith, some, c.unknown-size.ensures));
  };
}

pub step_copies-loop-copies-preserved : goal.step_copies-loop-copies-preserved
step_copies-loop-copies-preserved t c = record {
  swept = rw (c.then-through.ensures, c.or-ended.ensures, c.only_if.ensures) (swept_copy _
      c.args.least c.args.most c.loop-copies.copies c.loop-copies-test.true (
        leb-true _ _,
        le-leb _
            _,
      ) c.loop-copies.invariant.swept c.step_copy.ensures);
  sized = record {
    positions_so = λ some. omega (arith, c.step_copy.ensures.at);
    rounds_so = λ some. omega (arith, c.step_copy.ensures.round);
  };
}

pub step_copies-returns-then-sweep-at : goal.step_copies-returns-then-sweep-at
step_copies-returns-then-sweep-at t c =
    rw (
      c.or.ensures,
      c.only_if-then-sweep-at.ensures,
      c.then-through.ensures,
      c.or-ended.ensures,
      c.only_if.ensures,
    ) (swept_still _ _ c.args.least c.args.most c.loop-copies.copies c.loop-copies-test.true
    (leb-true _ _, le-leb _ _) (leb-true _ _, le-leb _ _) c.if-sweep-at.true
    c.loop-copies.invariant.swept c.step_copy.ensures)

pub step_copy-is_unmarked-requires : goal.step_copy-is_unmarked-requires
step_copy-is_unmarked-requires t c =
    let size = c.requires.sized.positions_so (omega (arith, c.if-size-eq0.false)) in
    omega (arith, c.requires.before.marks, size)

pub step_copy-returns-then-is_unmarked : goal.step_copy-returns-then-is_unmarked
step_copy-returns-then-is_unmarked t c =
    let known : 1 ≤ c.args.size.positions = omega (arith, c.if-size-eq0.false) in
    rw c.if-entered.false (moves_unmarked (c.requires.sized.positions_so known)
    (c.requires.sized.rounds_so known) (takes_empty (tree c.args.inner.now) ∙ sym
    c.has_empty_word.ensures) (c.is_unmarked.ensures.0 c.if-is_unmarked.true) c.requires.before.so)

pub step_copies-returns : goal.step_copies-returns
step_copies-returns t c =
    rw (c.or-2.ensures, c.only_if-2.ensures) (swept_copies _ _ c.args.least c.args.most
    c.loop-copies.copies (omega arith) (omega arith) (leb-true _ _, le-leb _ _)
    c.loop-copies.invariant.swept)

pub step_between-slice_bounds-step-end : goal.step_between-slice_bounds-step-end
step_between-slice_bounds-step-end t c =
    let fit = copies_fit c.args.least c.args.most c.in-Some.ensures c.requires in
    search rules

pub step_between-returns : goal.step_between-returns
step_between-returns t c =
    let at = c.args.sweep.now.at in
    let marks = c.args.sweep.now.marks in
    let m = at + c.args.most - at in
    let offset : m ≡ c.args.most = omega arith in
    let value = c.deref_mut.ensures.value in
    let stepped = rw (value, offset) at c.step-reach.ensures in
    let new = c.step-reach.new.marks in
    let put = λ (n : ℕ). take at marks.items ++ (new ++ drop n (drop at marks.items)) in
    let fit = copies_fit c.args.least c.args.most c.in-Some.ensures c.requires in
    let long = put_length at c.args.most marks.items new fit stepped.moved.same_length in
    let here = with_items_is marks (put m) (ap (λ n. length (put n)) offset ∙ long ∙ sym (ap length
    value) ∙ c.deref_mut.ensures.len) in
    moves_copies c.args.least c.args.most (omega arith) c.in-Some.ensures
    c.holds-holds.ensures.answer c.requires stepped (record {
      char = refl;
      at = refl;
      round = refl;
      rounds = refl;
      tests = record {
        counted = omega (arith, c.holds-holds.ensures.tests.counted);
        kept = c.holds-holds.ensures.tests.kept;
      };
      marks_are = rw value (here ∙ ap put offset);
    })

pub step_at_least-step-requires : goal.step_at_least-step-requires
step_at_least-step-requires t c = (
  search rules,
  before_goes_on c.args.least c.loop.counter c.loop-test.true c.loop.invariant.before,
)

pub step_at_least-step_plus-requires : goal.step_at_least-step_plus-requires
step_at_least-step_plus-requires t c = (
  search rules,
  before_still c.args.least c.loop.counter c.loop-test.true c.if-sweep-at.true c.loop.invariant
      c.step.ensures,
)

pub step_at_least-returns-then-sweep-at : goal.step_at_least-returns-then-sweep-at
step_at_least-returns-then-sweep-at t c =
    rw (c.then.ensures, c.then-through.ensures) (swept_still_plus c.args.least c.loop.counter
    c.loop-test.true c.if-sweep-at.true c.loop.invariant c.step.ensures (rw c.then-through.ensures at
    c.step_plus.ensures))

pub step_at_least-loop-preserved : goal.step_at_least-loop-preserved
step_at_least-loop-preserved t c =
    rw c.then-through.ensures (swept_goes_on c.args.least c.loop.counter c.loop-test.true
    c.loop.invariant c.step.ensures)

pub step_at_least-step_plus-requires-2 : goal.step_at_least-step_plus-requires-2
step_at_least-step_plus-requires-2 t c = (
  search rules,
  before_plus c.args.least c.loop.counter c.loop-test.false c.loop.invariant.before,
)

pub step_at_least-returns : goal.step_at_least-returns
step_at_least-returns t c =
    rw c.then-2.ensures (swept_plus c.args.least c.loop.counter c.loop-test.false c.loop.invariant
    c.step_plus-2.ensures)

pub step_plus-step_rounds-requires : goal.step_plus-step_rounds-requires
step_plus-step_rounds-requires t c = (
  search rules,
  (c.requires, own_other c.args.inner.now c.in_default.not-Class),
)

-- a sweep stands before a class that is repeated
record BeforeClass (negated : Bool) (items : List ClassElement) (sweep : Sweep) : Type 0 where
  within : sweep.at < length sweep.marks.items
  before : IsBefore (class negated items) sweep

before_class : (negated : Bool) (items : List ClassElement) (sweep : Sweep) {t : Tree}
    → t ≡ class_tree negated items → IsBefore (plus (unrolled t)) sweep
    → BeforeClass negated items sweep
unfolding unrolled
before_class negated items sweep {t} is h =
    let all : IsBefore (plus (class negated items)) sweep = rw is at h in
    record {
      within = omega (arith, all.marks);
      before = record {
        marks = all.marks;
        rounds = λ some. let fit = all.rounds some in omega (arith, fit);
        so = tt;
      };
    }

pub step_plus-index-requires : goal.step_plus-index-requires
step_plus-index-requires t c =
    let before = before_class _ _ _ (ap tree c.in-Class.is ∙ tree_class c.in-Class.class) c.requires
    in
    omega (arith, before.within)

pub step_plus-step_class-requires : goal.step_plus-step_class-requires
step_plus-step_class-requires t c = (before_class _ _ _ (ap tree c.in-Class.is ∙ tree_class
    c.in-Class.class) c.requires).before

pub step_plus-returns-in-Class : goal.step_plus-returns-in-Class
unfolding unrolled
step_plus-returns-in-Class t c =
    let before = before_class _ _ _ (ap tree c.in-Class.is ∙ tree_class c.in-Class.class) c.requires
    in
    let mark = c.index.ensures ∙ get_or_default _ _ _ false before.within in
    rw (c.in-Class.is, tree_class) (moves_class_plus (ap (λ b. c.args.entered || b) mark)
    c.step_class.ensures)

pub step_rounds-step-reach-requires : goal.step_rounds-step-reach-requires
step_rounds-step-reach-requires t c = (
  search rules,
  before_inner _ c.requires.own c.requires.before (λ some. let fit = c.requires.before.rounds some in
      omega (arith, fit, c.requires.own, some, c.saturating_add-sweep.ensures)),
)

pub step_rounds-returns-then-sweep-at : goal.step_rounds-returns-then-sweep-at
step_rounds-returns-then-sweep-at t c =
    let a = unrolled (tree c.args.inner.now) in
    let none : size a ≡ 0 = omega (arith, c.step-reach.ensures.at, c.if-sweep-at.true) in
    moves_idle {a = a} _ none (ap (λ b. c.args.entered || b) c.round_has_ended.ensures)
    c.step-reach.ensures

pub step_rounds-returns : goal.step_rounds-returns
step_rounds-returns t c =
    let a = unrolled (tree c.args.inner.now) in
    let some : 1 ≤ size a = omega (arith, c.step-reach.ensures.at, c.if-sweep-at.false) in
    let one : own_rounds a ≡ 1 = omega (arith, c.requires.own, some) in
    let fit = c.requires.before.rounds some in
    let next : c.saturating_add-sweep.result ≡ c.args.sweep.now.round + 1 = omega (
      arith,
      fit,
      one,
      c.saturating_add-sweep.ensures,
    ) in
    moves_rounds one some c.requires.before next (ap (λ b. c.args.entered || b)
    c.round_has_ended.ensures) c.step-reach.ensures refl
