-- Sweeps over the parts of a pattern, one after another.
use Rattle.std.proofs.Common.{◌≡◌, ℕ, ◌+◌, ◌≤◌, Bool, true}
use Rattle.std.proofs.Common.{false, List, [], ◌∷◌, drop, get_or}
use Rattle.std.proofs.Common.{inl, inr, refl, sym, ap, ◌∙◌, subst, arith}
use Rattle.std.proofs.lemmas.List.{get_or-drop}
use Rattle.jp_iregexp.specs.Tree.{Tree, branches, pieces}
use Rattle.jp_match.specs.declared.sweep.Reach.{Reach}
use Rattle.jp_match.specs.declared.sweep.Sweep.{Sweep}
use Rattle.jp_match.specs.Bounds.{MakesAtMost}
use Rattle.jp_match.specs.Private.Plain.{Plain, class, nothing, either, empty, sequence}
use Rattle.jp_match.specs.Private.Plain.{plus, unrolled}
use Rattle.jp_match.specs.Private.Marks.{size, Ends}
use Rattle.jp_match.specs.Private.Sweeps.{own_rounds, rounds_of, Rounds, IsBefore, IsSameOutside}
use Rattle.jp_match.specs.Private.Sweeps.{GoesOver, Moves, at_start, by_either, by_next, nowhere, reached}
use Rattle.jp_match.proofs.Bools.{and_false, or_is, or_assoc, or_false}
use Rattle.jp_match.proofs.Steps.EndParts.{ends_empty, ends_nothing, ends_either, ends_sequence}
use Rattle.jp_match.proofs.Steps.StepParts.{IsSameBefore, same_fewer, same_dropped, rest_same}
use Rattle.jp_match.proofs.Steps.StepParts.{same_back, ends_same, step_same, step_empty}
use Rattle.jp_match.proofs.Steps.StepParts.{step_nothing, step_either, step_sequence}

-- what is kept of the rounds is told by the first marks and the first rounds
pub rounds_same : (a : Plain) {marks others rounds kept : List Bool}
    → IsSameBefore (size a) marks others → IsSameBefore (rounds_of a) rounds kept
    → Rounds a marks rounds → Rounds a others kept
rounds_same (class negated items) same alike so = tt
rounds_same nothing same alike so = tt
rounds_same (either a b) same alike so = (
  rounds_same a (same_fewer same (omega arith)) (same_fewer alike (omega arith)) so.0,
  rounds_same b (same_dropped (size a) (size b) same) (same_dropped (rounds_of a) (rounds_of b)
      alike) so.1,
)
rounds_same empty same alike so = tt
rounds_same (sequence a b) same alike so = (
  rounds_same a (same_fewer same (omega arith)) (same_fewer alike (omega arith)) so.0,
  rounds_same b (same_dropped (size a) (size b) same) (same_dropped (rounds_of a) (rounds_of b)
      alike) so.1,
)
rounds_same (plus a) same alike so = (
  λ one. let first = alike.each 0 (omega (arith, one)) in (
    λ h. rest_same a [] same ((so.0 one).0 (first ∙ h)),
    λ r. sym first ∙ (so.0 one).1 (rest_same a [] (same_back same) r),
  ),
  rounds_same a same (same_dropped (own_rounds a) (rounds_of a) alike) so.1,
)

pub same_outside : {first end : ℕ} {xs ys : List Bool} → ys ≡ xs → IsSameOutside first end xs ys
same_outside is = record {
  same_length = rw is refl;
  below = λ k h. rw is refl;
  above = λ k h. rw is refl;
}

outside_then : {first at end : ℕ} {xs ys zs : List Bool} → first ≤ at → at ≤ end
    → IsSameOutside first at xs ys → IsSameOutside at end ys zs → IsSameOutside first end xs zs
outside_then some more h k = record {
  same_length = k.same_length ∙ h.same_length;
  below = λ i under. k.below i (omega (arith, some)) ∙ h.below i under;
  above = λ i over. k.above i over ∙ h.above i (omega (arith, more));
}

-- the offsets before one on are as they were
same_here : (first n : ℕ) {at end : ℕ} {xs ys : List Bool} → at ≡ first + n
    → IsSameOutside at end xs ys → IsSameBefore n (drop first xs) (drop first ys)
same_here first n {xs} {ys} is h = record {
  each = λ k below. get_or-drop first xs k false ∙ sym (h.below (first + k) (omega (arith, is))) ∙
      sym (get_or-drop first ys k false);
}

-- from an offset on, by its distance from another
pub same_there : (first n at m : ℕ) (xs ys : List Bool) → at ≡ first + n
    → ((k : ℕ) → at ≤ k → get_or xs k false ≡ get_or ys k false)
    → IsSameBefore m (drop at xs) (drop n (drop first ys))
same_there first n at m xs ys is same = record {
  each = λ k below.
      let offset : at + k ≡ first + (n + k) = omega (arith, is) in
      get_or-drop at xs k false ∙ same (at + k) (omega arith) ∙
      ap (λ i. get_or ys i false) offset ∙ sym (get_or-drop first ys (n + k) false) ∙
      sym (get_or-drop n (drop first ys) k false);
}

-- class tests that are made one after another add up
pub no_tests : {most now : ℕ} → MakesAtMost most now now
no_tests = record { counted = omega arith; kept = omega arith }

pub tests_then : {m n first next last : ℕ} → MakesAtMost m first next → MakesAtMost n next last
    → MakesAtMost (m + n) first last
tests_then h k = record {
  counted = omega (arith, h.counted, k.counted);
  kept = omega (arith, h.kept, k.kept);
}

pub tests_up_to : {m n first last : ℕ} → m ≤ n → MakesAtMost m first last
    → MakesAtMost n first last
tests_up_to few h = record { counted = omega (arith, few, h.counted); kept = h.kept }

over_then : {m n k l : ℕ} {first next last : Sweep} → GoesOver m n first next
    → GoesOver k l next last → GoesOver (m + k) (n + l) first last
over_then h k = record {
  char = k.char ∙ h.char;
  at = omega (arith, h.at, k.at);
  round = omega (arith, h.round, k.round);
  marks = outside_then (omega (arith, h.at)) (omega (arith, k.at)) h.marks k.marks;
  rounds = outside_then (omega (arith, h.round)) (omega (arith, k.round)) h.rounds k.rounds;
  tests = tests_then h.tests k.tests;
}

pub over_none : {sweep : Sweep} → GoesOver 0 0 sweep sweep
over_none = record {
  char = refl;
  at = omega arith;
  round = omega arith;
  marks = same_outside refl;
  rounds = same_outside refl;
  tests = no_tests;
}

-- a part and then another one beside it
record Beside (a b : Plain) (first next last : Sweep) : Type 0 where
  here : IsSameBefore (size a) (drop first.at next.marks.items) (drop first.at last.marks.items)
  before : IsSameBefore (size b) (drop next.at next.marks.items)
      (drop (size a) (drop first.at first.marks.items))
  after : IsSameBefore (size b) (drop next.at last.marks.items)
      (drop (size a) (drop first.at last.marks.items))
  so : Rounds a (drop first.at last.marks.items) (drop first.round last.rounds.items) ×
      Rounds b (drop (size a) (drop first.at last.marks.items))
      (drop (rounds_of a) (drop first.round last.rounds.items))

beside : {a b : Plain} {e e' x x' : Reach} {first next last : Sweep}
    → Moves a e first next x → Moves b e' next last x' → Beside a b first next last
beside {a} {b} {first} {next} {last} h k =
    let here = same_here first.at (size a) h.at k.marks in
    let after = same_there first.at (size a) next.at (size b) last.marks.items last.marks.items h.at
    (λ i over. refl) in
    record {
      here = here;
      before = same_there first.at (size a) next.at (size b) next.marks.items first.marks.items h.at
          h.marks.above;
      after = after;
      so = (
        rounds_same a here (same_here first.round (rounds_of a) h.round k.rounds) h.so,
        rounds_same b after (same_there first.round (rounds_of a) next.round (rounds_of b)
            last.rounds.items last.rounds.items h.round (λ i over. refl)) k.so,
      );
    }

pub same_itself : {n : ℕ} {marks : List Bool} → IsSameBefore n marks marks
same_itself = record { each = λ k below. refl }

pub moves_sequence : {a b : Plain} {e x y : Reach} {first next last : Sweep}
    → Moves a e first next x → Moves b x next last y → Moves (sequence a b) e first last y
moves_sequence h k =
    let s = beside h k in
    record {
      over = over_then h.over k.over;
      step = step_sequence (step_same same_itself s.here h.step) (step_same s.before s.after (rw h.char
          at k.step));
      ends = ends_sequence (ends_same s.here h.ends) (ends_same s.after k.ends);
      ends_too = ends_sequence (ends_same s.here h.ends_too) (ends_same s.after k.ends_too);
      so = s.so;
    }

pub moves_either : {a b : Plain} {e x y : Reach} {first next last : Sweep} → Moves a e first next x
    → Moves b e next last y → Moves (either a b) e first last (by_either x y)
moves_either h k =
    let s = beside h k in
    record {
      over = over_then h.over k.over;
      step = step_either (step_same same_itself s.here h.step) (step_same s.before s.after (rw h.char at
          k.step));
      ends = ends_either (ends_same s.here h.ends) (ends_same s.after k.ends);
      ends_too = ends_either (ends_same s.here h.ends_too) (ends_same s.after k.ends_too);
      so = s.so;
    }

pub moves_empty : {e : Reach} {sweep : Sweep} → Moves empty e sweep sweep e
moves_empty = record {
  over = over_none;
  step = step_empty;
  ends = ends_empty;
  ends_too = ends_empty;
  so = tt;
}

pub moves_nothing : {e : Reach} {sweep : Sweep} → Moves nothing e sweep sweep nowhere
moves_nothing = record {
  over = over_none;
  step = step_nothing;
  ends = ends_nothing;
  ends_too = ends_nothing;
  so = tt;
}

-- the end for any entry
ends_reached : {a : Plain} (entered : Bool) {marks : List Bool} {f t : Bool} → Ends a false marks f
    → Ends a true marks t → Ends a entered marks (reached entered f t)
ends_reached true {f} {t} off on = record {
  is = (
    λ h. elim ((or_is f t).0 h) [
      | inl x ↦ elim (off.is.0 x) [ inl r ↦ inl r | inr w ↦ absurd (let e = w.0 in cc) ]
      | inr y ↦ on.is.0 y
    ],
    λ h. (or_is f t).1 (inr (on.is.1 h)),
  );
}
ends_reached {a} false {marks} {f} off on = subst (Ends a false marks) (sym (or_false f)) off

pub moves_entered : {a : Plain} {e x : Reach} {first next : Sweep}
    → Moves a (at_start e.before) first next x → Moves a e first next (by_next e x)
moves_entered {e} h = record {
  over = h.over;
  step = h.step;
  ends = ends_reached e.after h.ends h.ends_too;
  ends_too = ends_reached e.after_entered h.ends h.ends_too;
  so = h.so;
}

by_nowhere : (r : Reach) → by_next r nowhere ≡ nowhere
by_nowhere r = rw (and_false r.after, and_false r.after_entered) refl

-- where nothing is entered and no mark leads to the end
pub moves_nowhere : {a : Plain} {e : Reach} {first next : Sweep} → e.before ≡ false
    → Moves a (at_start false) first next nowhere → Moves a e first next nowhere
moves_nowhere {a} {e} {first} {next} is h = subst (Moves a e first next) (by_nowhere e)
    (moves_entered {e = e} {x = nowhere} (rw is h))

-- the sweep stands before the first of two parts, and once it has gone over it before the other
pub before_first : {a b : Plain} {sweep : Sweep} → IsBefore (sequence a b) sweep → IsBefore a sweep
before_first h = record {
  marks = let fit = h.marks in omega (arith, fit);
  rounds = λ some. let fit = h.rounds (omega (arith, some)) in omega (arith, fit);
  so = h.so.0;
}

before_next : {a b : Plain} {e x : Reach} {sweep next : Sweep}
    → IsBefore (sequence a b) sweep → Moves a e sweep next x → IsBefore b next
before_next {a} {b} {sweep} {next} h m = record {
  marks = omega (arith, h.marks, m.at, m.marks.same_length);
  rounds = λ some. let fit = h.rounds (omega (arith, some)) in
      omega (arith, fit, m.round, m.rounds.same_length);
  so = rounds_same b
      (same_back (same_there sweep.at (size a) next.at (size b) next.marks.items sweep.marks.items m.at
      m.marks.above))
      (same_back (same_there sweep.round (rounds_of a) next.round (rounds_of b) next.rounds.items
      sweep.rounds.items m.round m.rounds.above)) h.so.1;
}

pub as_sequence : {a b : Plain} {sweep : Sweep} → IsBefore (either a b) sweep
    → IsBefore (sequence a b) sweep
as_sequence h = record { marks = h.marks; rounds = h.rounds; so = h.so }

-- a sweep so far, and how the ends of the parts before are reached: whatever the rest does completes
-- the whole
pub record Swept (whole todo : Plain) (begin : Bool) (through : Reach) (first now : Sweep)
    (ended : Reach) : Type 0 where
  pub before : IsBefore todo now
  pub completes : (last : Sweep) (end : Reach) → Moves todo through now last end
      → Moves whole (at_start begin) first last (by_either ended end)

pub swept_none : {whole : Plain} {e : Bool} {sweep : Sweep} → IsBefore whole sweep
    → Swept whole whole e (at_start e) sweep sweep nowhere
swept_none before = record { before = before; completes = λ last end h. h }

pub swept_next : {whole a b : Plain} {begin : Bool} {through x ended : Reach} {first now
    next : Sweep} → Swept whole (sequence a b) begin through first now ended
    → Moves a through now next x → Swept whole b begin x first next ended
swept_next so_far here = record {
  before = before_next so_far.before here;
  completes = λ last end h. so_far.completes last end (moves_sequence here h);
}

pub swept_piece : {whole a b : Plain} {begin : Bool} {through x ended : Reach} {first now
    next : Sweep} → Swept whole (sequence a b) begin through first now ended
    → Moves a (at_start through.before) now next x
    → Swept whole b begin (by_next through x) first next ended
swept_piece {through} so_far moved = swept_next so_far (moves_entered {e = through} moved)

either_assoc : (r s t : Reach) → by_either (by_either r s) t ≡ by_either r (by_either s t)
either_assoc r s t = rw (
  or_assoc r.before s.before t.before,
  or_assoc r.after s.after t.after,
  or_assoc r.after_entered s.after_entered t.after_entered,
) refl

pub either_nowhere : (r : Reach) → by_either r nowhere ≡ r
either_nowhere r = rw (or_false r.before, or_false r.after, or_false r.after_entered) refl

-- the sweep may end here, and goes on
pub swept_either : {whole a b : Plain} {begin : Bool} {through x ended : Reach} {first now
    next : Sweep} → Swept whole (either a b) begin through first now ended
    → Moves a through now next x → Swept whole b begin through first next (by_either ended x)
swept_either {whole} {begin} {x} {ended} {first} so_far here = record {
  before = before_next (as_sequence so_far.before) here;
  completes = λ last end h. subst (Moves whole (at_start begin) first last) (sym (either_assoc
      ended x end)) (so_far.completes last (by_either x end) (moves_either here h));
}

pub before_branch : (a : Tree) (others : List Tree) {sweep : Sweep}
    → IsBefore (unrolled (branches (a ∷ others))) sweep → IsBefore (unrolled a) sweep
unfolding unrolled
before_branch a others h = before_first {b = unrolled (branches others)} (as_sequence h)

pub before_piece : (a : Tree) (others : List Tree) {sweep : Sweep}
    → IsBefore (unrolled (pieces (a ∷ others))) sweep → IsBefore (unrolled a) sweep
unfolding unrolled
before_piece a others h = before_first {b = unrolled (pieces others)} h

pub swept_next_branch : {whole : Plain} (a : Tree) (others : List Tree) {begin e : Bool}
    {x ended : Reach} {first now next : Sweep}
    → Swept whole (unrolled (branches (a ∷ others))) begin (at_start e) first now ended
    → Moves (unrolled a) (at_start e) now next x
    → Swept whole (unrolled (branches others)) begin (at_start e) first next (by_either ended x)
unfolding unrolled
swept_next_branch a others so_far moved = swept_either so_far moved

pub swept_next_piece : {whole : Plain} (a : Tree) (others : List Tree) {begin : Bool}
    {through x ended : Reach} {first now next : Sweep}
    → Swept whole (unrolled (pieces (a ∷ others))) begin through first now ended
    → Moves (unrolled a) through now next x
    → Swept whole (unrolled (pieces others)) begin x first next ended
unfolding unrolled
swept_next_piece a others so_far moved = swept_next so_far moved

-- no branch, or no piece, is left
pub swept_branches : {whole : Plain} {begin : Bool} {through ended : Reach} {first now :
    Sweep} → Swept whole (unrolled (branches [])) begin through first now ended
    → Moves whole (at_start begin) first now ended
unfolding unrolled
swept_branches {whole} {begin} {ended} {first} {now} so_far = subst (Moves whole (at_start
    begin) first now) (either_nowhere ended) (so_far.completes now nowhere moves_nothing)

pub swept_pieces : {whole : Plain} {begin : Bool} {through : Reach} {first now : Sweep}
    → Swept whole (unrolled (pieces [])) begin through first now nowhere
    → Moves whole (at_start begin) first now through
unfolding unrolled
swept_pieces {through} {now} so_far = so_far.completes now through moves_empty
