-- A step over a whole pattern: the sweep may end before the pattern does.
use Rattle.std.proofs.Common.{◌≡◌, ℕ, ◌+◌, ◌≤◌, Bool, true, false, List, [], ◌∷◌}
use Rattle.std.proofs.Common.{drop, get_or, refl, sym, ◌∙◌, subst, arith}
use Rattle.std.specs.Bool.{IsTrue}
use Rattle.std.proofs.lemmas.List.{get_or_past}
use Rattle.jp_iregexp.specs.Tree.{Tree, branches}
use Rattle.jp_match.specs.declared.sweep.Reach.{Reach}
use Rattle.jp_match.specs.declared.sweep.Sweep.{Sweep}
use Rattle.jp_match.specs.Bounds.{MakesAtMost}
use Rattle.jp_match.specs.Private.Plain.{Plain, nothing, either, unrolled}
use Rattle.jp_match.specs.Private.Marks.{size, Ends, Steps}
use Rattle.jp_match.specs.Private.Sweeps.{rounds_of, takes_none, IsUnmarked, Moves, IsAtStart, MovesAll}
use Rattle.jp_match.specs.Private.Sweeps.{at_start, nowhere}
use Rattle.jp_match.proofs.Bools.{or_false}
use Rattle.jp_match.proofs.Steps.EndParts.{ends_either, ends_nothing}
use Rattle.jp_match.proofs.Steps.Idle.{by_none, past, moves_unmarked}
use Rattle.jp_match.proofs.Steps.StepParts.{step_either, step_nothing}
use Rattle.jp_match.proofs.Steps.Sweeping.{Swept, moves_entered, before_first, as_sequence}
use Rattle.jp_match.proofs.Steps.Sweeping.{tests_up_to}

pub all_moved : {a : Plain} (end : ℕ) {e : Bool} {first last : Sweep} {x : Reach}
    → IsAtStart a end first → Moves a (at_start e) first last x → MovesAll a e first last x
all_moved end {last = last} start m = record {
  marks = m.marks.same_length;
  rounds = m.rounds.same_length;
  within = omega (arith, m.at, start.at);
  none = λ k over h.
      let past = get_or_past last.marks.items k false (omega (
        arith,
        over,
        m.at,
        start.at,
        start.sized,
        m.marks.same_length,
      )) in
      absurd (let e = sym past ∙ h in cc);
  step = m.step;
  ends = m.ends;
  ends_too = m.ends_too;
  so = m.so;
  tests = tests_up_to (omega (arith, m.at, start.at)) m.tests;
}

-- where nothing is entered and no mark is left, the others stay as they are
pub all_ended : {whole rest : Plain} (end : ℕ) {begin : Bool} {through : Reach} {first now :
    Sweep} → IsAtStart whole end first → Swept whole rest begin through first now nowhere
    → ((k : ℕ) → now.at ≤ k → get_or now.marks.items k false ≡ get_or first.marks.items k false)
    → MakesAtMost now.at first.tests now.tests → end ≤ now.at → through ≡ nowhere
    → MovesAll whole begin first now nowhere
all_ended {whole} {rest} end {begin} {through} {first} {now} start so_far ahead tests over is =
    let none : (k : ℕ) → now.at ≤ k → IsTrue (get_or now.marks.items k false) → ⊥ = λ k beyond h.
    start.ended k (omega (arith, over, beyond)) (sym (ahead k beyond) ∙ h) in
    let unmarked : IsUnmarked now (size rest) = λ k below. none (now.at + k) (omega arith) in
    let last = past now (size rest) (rounds_of rest) in
    let still : Moves rest (at_start false) now last (by_none (takes_none rest)) = moves_unmarked
    refl refl refl unmarked so_far.before.so in
    let here : Swept whole rest begin nowhere first now nowhere = subst (λ r. Swept whole rest
    begin r first now nowhere) is so_far in
    let all = here.completes last nowhere (moves_entered {e = nowhere} still) in
    record {
      marks = all.marks.same_length;
      rounds = all.rounds.same_length;
      within = omega (arith, all.at, start.at);
      none = none;
      step = all.step;
      ends = all.ends;
      ends_too = all.ends_too;
      so = all.so;
      tests = tests;
    }

-- a pattern of one branch is as the branch
pub start_branch : {a : Plain} {end : ℕ} {sweep : Sweep} → IsAtStart (either a nothing) end sweep
    → IsAtStart a end sweep
start_branch start = record {
  before = before_first {b = nothing} (as_sequence start.before);
  at = start.at;
  sized = let long = start.sized in omega (arith, long);
  ended = start.ended;
}

pub all_branch : {a : Plain} {e : Bool} {first last : Sweep} {x : Reach}
    → MovesAll a e first last x → MovesAll (either a nothing) e first last x
all_branch {a} {e} {first} {last} {x} m =
    let before = drop first.at first.marks.items in
    let after = drop first.at last.marks.items in
    record {
      marks = m.marks;
      rounds = m.rounds;
      within = let few = m.within in omega (arith, few);
      none = m.none;
      step = subst (Steps (either a nothing) first.c e before after) (or_false x.before) (step_either m.step
          step_nothing);
      ends = subst (Ends (either a nothing) false after) (or_false x.after) (ends_either m.ends
          ends_nothing);
      ends_too = subst (Ends (either a nothing) true after) (or_false x.after_entered) (ends_either
          m.ends_too ends_nothing);
      so = (m.so, tt);
      tests = m.tests;
    }

pub start_only : {t u : Tree} {ts : List Tree} {end : ℕ} {sweep : Sweep} → ts ≡ t ∷ [] → t ≡ u
    → IsAtStart (unrolled (branches ts)) end sweep → IsAtStart (unrolled u) end sweep
unfolding unrolled
start_only {t} {end = end} {sweep} one is start =
    let whole : IsAtStart (either (unrolled t) nothing) end sweep = rw one at start in
    subst (λ t. IsAtStart (unrolled t) end sweep) is (start_branch whole)

pub all_only : {t u : Tree} {ts : List Tree} {e : Bool} {first last : Sweep} {x : Reach}
    → ts ≡ t ∷ [] → t ≡ u → MovesAll (unrolled u) e first last x
    → MovesAll (unrolled (branches ts)) e first last x
unfolding unrolled
all_only {t} {e} {first} {last} {x} one is m =
    let whole : MovesAll (either (unrolled t) nothing) e first last x = rw is (all_branch m) in
    rw one whole
