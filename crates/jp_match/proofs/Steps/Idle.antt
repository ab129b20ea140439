-- Parts without a mark: where they are not entered, a step leaves them as they are.
use Rattle.std.proofs.Common.{◌≡◌, ◌↔◌, inl, inr, ℕ, zero, suc, ◌+◌, ◌-◌, ◌<◌, Bool, true, false}
use Rattle.std.proofs.Common.{List}
use Rattle.std.proofs.Common.{[], length, drop, take, get_or, nat_eq, Option, Some, refl, sym, ap}
use Rattle.std.proofs.Common.{◌∙◌, not, subst, arith}
use Rattle.std.specs.Bool.{IsTrue}
use Rattle.std.proofs.Math.Dec.{eqb-suc-zero}
use Rattle.std.proofs.lemmas.Bool.{cases_lt}
use Rattle.std.proofs.lemmas.List.{get_or-drop, get_or-take, get_or_past, length-take}
use Rattle.jp_iregexp.specs.declared.class.ClassElement.{ClassElement}
use Rattle.jp_iregexp.specs.Tree.{Tree, class as class_tree, repeat}
use Rattle.jp_match.specs.declared.sweep.Reach.{Reach}
use Rattle.jp_match.specs.declared.sweep.Sweep.{Sweep}
use Rattle.jp_match.specs.Private.EmptyWord.{has_empty}
use Rattle.jp_match.specs.Private.Plain.{Plain, class, between, unrolled, counted}
use Rattle.jp_match.specs.Private.Marks.{size, Ends}
use Rattle.jp_match.specs.Private.Sweeps.{rounds_of, Rounds, takes_none, IsBefore}
use Rattle.jp_match.specs.Private.Sweeps.{IsIdle, IsUnmarked, Moves, at_start, nowhere}
use Rattle.jp_match.proofs.Bools.{not_both}
use Rattle.jp_match.proofs.Steps.Kept.{takes_none_is, ends_are_entered, ends_fresh}
use Rattle.jp_match.proofs.Steps.Sizes.{size_between, rounds_between}
use Rattle.jp_match.proofs.Steps.StepParts.{IsSameBefore, rest_none, step_nowhere, step_same}
use Rattle.jp_match.proofs.Steps.StepParts.{ends_same}
use Rattle.jp_match.proofs.Steps.Sweeping.{moves_nowhere, no_tests, same_outside}

not_true : (b : Bool) → (IsTrue b → ⊥) → false ≡ b
not_true true never = absurd (never refl)
not_true false never = refl

no_mark : (k : ℕ) → IsTrue (get_or [] k false) → ⊥
no_mark k h = cc

-- the next marks are as those of a list without marks
unmarked : (n : ℕ) (sweep : Sweep) → IsUnmarked sweep n → IsSameBefore n [] (drop sweep.at
    sweep.marks.items)
unmarked n sweep none = record {
  each = λ k below. not_true (get_or (drop sweep.at sweep.marks.items) k false) (λ h. none k below (sym
      (get_or-drop sweep.at sweep.marks.items k false) ∙ h));
}

-- the end is reached by the empty word alone
ends_nowhere : (a : Plain) → Ends a true [] (takes_none a)
ends_nowhere a = record {
  is = (
    λ h. inr (refl, (takes_none_is a).0 h),
    λ w. elim w [
      | inl r ↦ absurd (rest_none a [] [] no_mark r)
      | inr v ↦ (takes_none_is a).1 v.1
    ],
  );
}

pub takes_empty : (t : Tree) → takes_none (unrolled t) ≡ has_empty t
takes_empty t =
    let a = unrolled t in
    ends_are_entered a [] (takes_none a) (ends_nowhere a) ∙
    sym (ends_are_entered a [] (has_empty t) (ends_fresh t [] no_mark))

-- a sweep goes past a part
abbrev pub past : Sweep → ℕ → ℕ → Sweep
past now positions repeats = record now { at = now.at + positions; round = now.round + repeats }

-- the end of a part that has no mark and is not entered
abbrev pub by_none : Bool → Reach
by_none takes = record { before = false; after = false; after_entered = takes }

pub moves_unmarked : {a : Plain} {positions repeats : ℕ} {takes : Bool} {now : Sweep}
    → size a ≡ positions → rounds_of a ≡ repeats → takes_none a ≡ takes
    → IsUnmarked now positions → Rounds a (drop now.at now.marks.items) (drop now.round
    now.rounds.items) → Moves a (at_start false) now (past now positions repeats) (by_none takes)
moves_unmarked {a} {now = now} sized counted takes none so =
    let same = unmarked (size a) now (λ k below. none k (omega (arith, below, sized))) in
    let step = step_same same same (step_nowhere a now.c [] no_mark) in
    record {
      over = record {
        char = refl;
        at = omega (arith, sized);
        round = omega (arith, counted);
        marks = same_outside refl;
        rounds = same_outside refl;
        tests = no_tests;
      };
      step = step;
      ends = step.ends;
      ends_too = rw (← takes) (ends_same same (ends_nowhere a));
      so = so;
    }

pub moves_idle_part : {a : Plain} {positions : ℕ} {e : Bool} {now : Sweep}
    → IsIdle a now positions e → Rounds a (drop now.at now.marks.items) (drop now.round
    now.rounds.items) → Moves a (at_start false) now (record now { at = now.at + positions })
    (by_none e)
moves_idle_part {a} {positions} {e} {now} idle so =
    let round : now.round + 0 ≡ now.round = omega arith in
    subst (λ r. Moves a (at_start false) now (record now { at = now.at + positions; round = r })
    (by_none e)) round (moves_unmarked idle.sized idle.no_rounds idle.takes idle.no_mark so)

pub moves_idle_next : {a : Plain} {positions : ℕ} {e : Reach} {now : Sweep} → e.before ≡ false
    → IsIdle a now positions false → Rounds a (drop now.at now.marks.items) (drop now.round
    now.rounds.items) → Moves a e now (record now { at = now.at + positions }) nowhere
moves_idle_next is idle so = moves_nowhere is (moves_idle_part idle so)

-- copies of a class have the empty word where there may be none
takes_copies : (negated : Bool) (items : List ClassElement) (least most : ℕ)
    → takes_none (between (class negated items) least most) ≡ nat_eq least 0
unfolding between
takes_copies negated items zero zero = refl
takes_copies negated items zero (suc most) = refl
takes_copies negated items (suc least) zero = sym (eqb-suc-zero least)
takes_copies negated items (suc least) (suc most) = sym (eqb-suc-zero least)

pub size_copies : (t : Tree) (least most : ℕ) (o : Option ℕ) (negated : Bool) (items : List
    ClassElement) → o ≡ Some most → t ≡ class_tree negated items
    → size (unrolled (repeat t least o)) ≡ most
unfolding unrolled counted
size_copies t least most o negated items is one =
    let e = size_between (class negated items) least most in rw (is, one) (omega (arith, e))

pub idle_of_copies : (t : Tree) (least most : ℕ) (o : Option ℕ) (negated : Bool) (items : List
    ClassElement) (sweep : Sweep) → o ≡ Some most → t ≡ class_tree negated items
    → IsUnmarked sweep most → IsIdle (unrolled (repeat t least o)) sweep most (nat_eq least 0)
unfolding unrolled counted
idle_of_copies t least most o negated items sweep is one none =
    let rounds = rounds_between (class negated items) least most in
    record {
      sized = size_copies t least most o negated items is one;
      no_rounds = rw (is, one) (omega (arith, rounds));
      takes = rw (is, one) (takes_copies negated items least most);
      no_mark = none;
    }

pub idle_of_class : (t : Tree) (negated : Bool) (items : List ClassElement) (sweep : Sweep)
    → t ≡ class_tree negated items → get_or sweep.marks.items sweep.at false ≡ false
    → IsIdle (unrolled t) sweep 1 false
unfolding unrolled
idle_of_class t negated items sweep is none = rw is (record {
  sized = refl;
  no_rounds = refl;
  takes = refl;
  no_mark = λ k below h.
      let offset : sweep.at + k ≡ sweep.at = omega arith in
      absurd (let e = sym none ∙ ap (λ i. get_or sweep.marks.items i false) (sym offset) ∙ h in cc);
})

pub class_within : (t : Tree) (negated : Bool) (items : List ClassElement) (sweep : Sweep)
    → t ≡ class_tree negated items → IsBefore (unrolled t) sweep
    → sweep.at < length sweep.marks.items
unfolding unrolled
class_within t negated items sweep is before =
    let all : IsBefore (class negated items) sweep = rw is at before in omega (arith, all.marks)

pub unmarked_slice : (at n : ℕ) (marks : List Bool) (any : Bool)
    → (IsTrue any ↔ ((k : ℕ) × IsTrue (get_or (take (at + n - at) (drop at marks)) k false)))
    → IsTrue (not any) ↔ ((k : ℕ) → k < n → IsTrue (get_or marks (at + k) false) → ⊥)
unmarked_slice at n marks any is = (
  λ none k below h. not_both any none (is.1 (k, there k (omega (arith, below)) ∙ h)),
  λ none. ap not (sym (not_true any (λ h. let (k, marked) = is.0 h in
      elim (cases_lt k n) [
        | inl below ↦ none k below (sym (there k (omega (arith, below))) ∙ marked)
        | inr over ↦
            let long = length-take (at + n - at) (drop at marks) in
            let past = get_or_past (take (at + n - at) (drop at marks)) k false (omega arith) in
            absurd (let e = past in cc)
      ]))),
) where
  there : (k : ℕ) → k < at + n - at
      → get_or (take (at + n - at) (drop at marks)) k false ≡ get_or marks (at + k) false
  there k within = get_or-take (at + n - at) (drop at marks) k false within ∙
      get_or-drop at marks k false
