-- Sweeps over the copies of a repeat.
use Rattle.std.proofs.Common.{◌≡◌, ◌↔◌, ℕ, zero, suc, ◌+◌, ◌-◌, ◌≤◌, ◌<◌, Bool, true, false}
use Rattle.std.proofs.Common.{◌*◌, max, ◌&&◌, List, [], drop, refl, ap, ◌∙◌, subst, arith}
use Rattle.std.specs.Bool.{IsTrue}
use Rattle.jp_iregexp.specs.Language.{Power}
use Rattle.jp_match.specs.declared.sweep.Reach.{Reach}
use Rattle.jp_match.specs.declared.sweep.Sweep.{Sweep}
use Rattle.jp_match.specs.Private.Plain.{Plain, Words, either, empty, sequence, plus}
use Rattle.jp_match.specs.Private.Plain.{at_least, between}
use Rattle.jp_match.specs.Private.Marks.{size, Ends}
use Rattle.jp_match.specs.Private.Sweeps.{IsBefore, Moves, at_start, by_either, by_next, nowhere}
use Rattle.jp_match.specs.Private.Sweeps.{only_if}
use Rattle.jp_match.proofs.Bools.{and_is}
use Rattle.jp_match.proofs.Steps.EmptyWords.{powers_nil}
use Rattle.jp_match.proofs.Steps.EndParts.{joined_nil, nil_before}
use Rattle.jp_match.proofs.Steps.Sizes.{own_few, rounds_without, rounds_free, size_between}
use Rattle.jp_match.proofs.Steps.Sizes.{size_at_least}
use Rattle.jp_match.proofs.Steps.StepParts.{ends_without, without_ends, step_without}
use Rattle.jp_match.proofs.Steps.Unrolled.{between_to, between_of, at_least_to, at_least_of}
use Rattle.jp_match.proofs.Steps.Sweeping.{Swept, swept_none, moves_either, moves_empty}
use Rattle.jp_match.proofs.Steps.Sweeping.{moves_nothing, moves_entered, over_none, swept_piece}
use Rattle.jp_match.proofs.Steps.Sweeping.{before_first, swept_either, either_nowhere}

-- what may be left out has no positions
before_second : {a : Plain} {sweep : Sweep} → IsBefore (either empty a) sweep → IsBefore a sweep
before_second h = record {
  marks = let fit = h.marks in omega (arith, fit);
  rounds = λ some. let fit = h.rounds (omega (arith, some)) in omega (arith, fit);
  so = h.so.1;
}

-- a counted repeat may end here once there are enough copies, and else goes on
swept_here : {whole a : Plain} {begin : Bool} (enough : Bool) (least most : ℕ) {through
    ended : Reach} {first now : Sweep} → IsTrue enough ↔ (least ≡ 0)
    → Swept whole (between a least (suc most)) begin through first now ended
    → Swept whole (sequence a (between a (least - 1) most)) begin through first now
    (by_either ended (only_if enough through))
unfolding between
swept_here {whole} {a} {begin} true zero most {through} {ended} {first} {now} is so_far =
    let here : Swept whole (either empty (sequence a (between a zero most))) begin through first
    now ended = so_far in
    record {
      before = before_second here.before;
      completes = (swept_either here moves_empty).completes;
    }
swept_here false zero most is so_far = absurd (let h = is.1 refl in cc)
swept_here true (suc least) most is so_far = absurd (let h = is.0 refl in omega arith)
swept_here {whole} {a} {begin} false (suc least) most {through} {ended} {first} {now} is
    so_far =
    let one : suc least - 1 ≡ least = omega arith in
    rw (one, either_nowhere ended) so_far

-- before the first copy
pub swept_begin : (a : Plain) {e : Bool} (least most : ℕ) {sweep : Sweep}
    → IsBefore (between a least most) sweep → Swept (between a least most)
    (between a (least - 0) (most - 0)) e (at_start e) sweep sweep nowhere
swept_begin a least most before =
    let all : least - 0 ≡ least = omega arith in
    let every : most - 0 ≡ most = omega arith in
    rw (all, every) (swept_none before)

-- one copy more of a counted repeat
pub swept_copy : {whole a : Plain} {begin : Bool} (enough : Bool) (least most done : ℕ)
    {through x ended : Reach} {first now next : Sweep} → done < most → IsTrue enough ↔ (least ≤ done)
    → Swept whole (between a (least - done) (most - done)) begin through first now ended
    → Moves a (at_start through.before) now next x
    → Swept whole (between a (least - (done + 1)) (most - (done + 1))) begin (by_next through x)
    first next (by_either ended (only_if enough through))
swept_copy {whole} {a} {begin} enough least most done {through} {x} {ended} {first} {now} more
    is so_far moved =
    let left : most - done ≡ suc (most - (done + 1)) = omega arith in
    let fewer : least - done - 1 ≡ least - (done + 1) = omega arith in
    let here = swept_here enough (least - done) (most - (done + 1)) (
      λ h. let within = is.0 h in omega arith,
      λ z. is.1 (omega arith),
    ) (subst (λ m. Swept whole (between a (least - done) m) begin through first now ended) left
    so_far) in
    swept_piece (subst (λ l. Swept whole (sequence a (between a l (most - (done + 1)))) begin
    through first now (by_either ended (only_if enough through))) fewer here) moved

moves_last : (a : Plain) (enough : Bool) (least : ℕ) {through : Reach} {sweep : Sweep}
    → IsTrue enough ↔ (least ≡ 0)
    → Moves (between a least 0) through sweep sweep (only_if enough through)
unfolding between
moves_last a true zero is = moves_empty
moves_last a false zero is = absurd (let h = is.1 refl in cc)
moves_last a true (suc least) is = absurd (let h = is.0 refl in omega arith)
moves_last a false (suc least) is = moves_nothing

-- after the last copy it may end, if it may take so many
pub swept_copies : {whole : Plain} (a : Plain) {begin : Bool} (enough : Bool) (least most done : ℕ)
    {through ended : Reach} {first now : Sweep} → most ≤ done → done ≤ most
    → IsTrue enough ↔ (least ≤ most)
    → Swept whole (between a (least - done) (most - done)) begin through first now ended
    → Moves whole (at_start begin) first now (by_either ended (only_if enough through))
swept_copies {whole} a {begin} enough least most done {through} {ended} {first} {now} all
    within is so_far =
    let none : most - done ≡ 0 = omega arith in
    (subst (λ m. Swept whole (between a (least - done) m) begin through first now ended) none
    so_far).completes now (only_if enough through) (moves_last a enough (least - done) (
      λ h. let few = is.0 h in omega arith,
      λ z. is.1 (omega arith),
    ))

-- without positions nothing moves, and the end is reached by the empty word alone
moves_without : {a : Plain} (through end : Reach) {sweep : Sweep} → size a ≡ 0
    → ((marks : List Bool) → Ends a through.before marks end.before)
    → ((marks : List Bool) → Ends a through.after marks end.after)
    → ((marks : List Bool) → Ends a through.after_entered marks end.after_entered)
    → Moves a through sweep sweep end
moves_without {a} through end {sweep} none before after too =
    let marks = drop sweep.at sweep.marks.items in
    let still = rounds_without a none in
    record {
      over = rw (none, still) over_none;
      step = step_without none (before marks);
      ends = after marks;
      ends_too = too marks;
      so = rounds_free a marks (drop sweep.round sweep.rounds.items) still;
    }

-- copies without positions: where one of them is gone through, so are all
ends_copies : (a : Plain) (e enough : Bool) (least most : ℕ) {marks : List Bool} → size a ≡ 0
    → IsTrue enough ↔ (least ≤ most) → (IsTrue e → Words a [])
    → Ends (between a least most) e marks (enough && e)
ends_copies a e enough least most none is words =
    let sizes : size (between a least most) ≡ 0 = size_between a least most ∙ ap (λ n. most * n)
    none ∙ omega arith in
    ends_without sizes (
      λ h. let p = (and_is enough e).0 h in (
        p.1,
        between_of a least most least [] (omega arith) (is.0 p.0) (powers_nil (Words a) least
            (words p.1)),
      ),
      λ h.
          let (k, some, few, power) = between_to a least most [] h.1 in
          (and_is enough e).1 (is.1 (omega (arith, some, few)), h.0),
    )

-- where nothing moves, only the empty word counts
ends_as : {a b : Plain} {entered : Bool} {marks : List Bool} {q : Bool} → size a ≡ 0 → size b ≡ 0
    → Words a [] ↔ Words b [] → Ends a entered marks q → Ends b entered marks q
ends_as none also is ends =
    let word = without_ends none ends in
    ends_without also (
      λ i. let w = word.0 i in (w.0, is.0 w.1),
      λ w. word.1 (w.0, is.1 w.1),
    )

moves_as : {a b : Plain} {e x : Reach} {first last : Sweep} → size a ≡ 0 → size b ≡ 0
    → Words a [] ↔ Words b [] → Moves a e first last x → Moves b e first last x
moves_as {a} {b} {first} {last} none also is h =
    let still = rounds_without b also in
    record {
      over = rw (also, still) (rw (none, rounds_without a none) at h.over);
      step = step_without also (ends_as none also is h.step.ends);
      ends = ends_as none also is h.ends;
      ends_too = ends_as none also is h.ends_too;
      so = rounds_free b (drop first.at last.marks.items) (drop first.round last.rounds.items) still;
    }

-- one copy more of a repeat without a most, and others after it
pub swept_goes_on : {whole a : Plain} {begin : Bool} (least done : ℕ) {through x ended : Reach}
    {first now next : Sweep} → done < least
    → Swept whole (at_least a (suc (least - done))) begin through first now ended
    → Moves a (at_start through.before) now next x
    → Swept whole (at_least a (suc (least - (done + 1)))) begin (by_next through x) first next ended
unfolding at_least
swept_goes_on {whole} {a} {begin} least done {through} {ended = ended} {first} {now} more
    so_far moved =
    let left : least - done ≡ suc (least - (done + 1)) = omega arith in
    let here : Swept whole (sequence a (at_least a (suc (least - (done + 1))))) begin through
    first now ended = subst (λ m. Swept whole (at_least a (suc m)) begin through first now ended)
    left so_far in
    swept_piece here moved

-- the last copy goes on
pub swept_plus : {whole a : Plain} {begin : Bool} (least done : ℕ) {through x : Reach}
    {first now last : Sweep} → least ≤ done
    → Swept whole (at_least a (suc (least - done))) begin through first now nowhere
    → Moves (plus a) (at_start through.before) now last x
    → Moves whole (at_start begin) first last (by_next through x)
unfolding at_least
swept_plus {whole} {a} {begin} least done {through} {x} {first} {now} {last} all so_far moved =
    let none : least - done ≡ 0 = omega arith in
    let here : Swept whole (plus a) begin through first now nowhere = subst (λ m. Swept whole
    (at_least a (suc m)) begin through first now nowhere) none so_far in
    here.completes last (by_next through x) (moves_entered {e = through} moved)

pub plus_nil : (a : Plain) → Words (plus a) [] ↔ Words a []
plus_nil a = (
  λ h. (joined_nil {L = Words a} {M = Power (Words a) h.0} h.1).0,
  λ w. (0, nil_before w refl),
)

some_nil : (L : List ℕ → Type 0) (n k : ℕ) → suc n ≤ k → Power L k [] → L []
some_nil L n zero some h = absurd (omega (arith, some))
some_nil L n (suc k) some h = (joined_nil {L = L} {M = Power L k} h).0

at_least_nil : (a : Plain) (n : ℕ) → Words (at_least a (suc n)) [] ↔ Words a []
at_least_nil a n = (
  λ h. let (k, some, power) = at_least_to a (suc n) [] h in some_nil (Words a) n k some power,
  λ w. at_least_of a (suc n) (suc n) [] (omega arith) (powers_nil (Words a) (suc n) w),
)

-- what stands before each copy
pub before_copy : {a : Plain} (least most done : ℕ) {sweep : Sweep} → done < most
    → IsBefore (between a (least - done) (most - done)) sweep → IsBefore a sweep
unfolding between
before_copy {a} least most done {sweep} more h =
    let left : most - done ≡ suc (most - (done + 1)) = omega arith in
    some (least - done) (most - (done + 1)) (subst (λ m. IsBefore (between a (least - done) m) sweep)
    left h) where
      some : (least most : ℕ) → IsBefore (between a least (suc most)) sweep → IsBefore a sweep
      some zero most h = before_first {b = between a zero most} (before_second h)
      some (suc least) most h = before_first {b = between a least most} h

pub before_goes_on : {a : Plain} (least done : ℕ) {sweep : Sweep} → done < least
    → IsBefore (at_least a (suc (least - done))) sweep → IsBefore a sweep
unfolding at_least
before_goes_on {a} least done {sweep} more h =
    let left : least - done ≡ suc (least - (done + 1)) = omega arith in
    before_first {b = at_least a (suc (least - (done + 1)))} (subst (λ m. IsBefore (at_least a (suc
    m)) sweep) left h)

pub before_plus : {a : Plain} (least done : ℕ) {sweep : Sweep} → least ≤ done
    → IsBefore (at_least a (suc (least - done))) sweep → IsBefore (plus a) sweep
unfolding at_least
before_plus {a} least done {sweep} all h =
    let none : least - done ≡ 0 = omega arith in
    subst (λ m. IsBefore (at_least a (suc m)) sweep) none h

pub before_star : {a : Plain} {sweep : Sweep} → IsBefore (at_least a 0) sweep → IsBefore (plus a) sweep
unfolding at_least
before_star h = before_second h

-- a repeat that may also be left out
pub moves_star : {a : Plain} {e x : Reach} {first last : Sweep}
    → Moves (plus a) e first last x → Moves (at_least a 0) e first last (by_either e x)
unfolding at_least
moves_star h = moves_either moves_empty h

-- a copy that moved nothing is all that there is to sweep
pub swept_still : {whole a : Plain} {begin : Bool} (enough within : Bool) (least most done :
    ℕ) {through x ended : Reach} {first now next : Sweep} → done < most
    → IsTrue enough ↔ (least ≤ done) → IsTrue within ↔ (least ≤ most) → next.at ≡ now.at
    → Swept whole (between a (least - done) (most - done)) begin through first now ended
    → Moves a (at_start through.before) now next x
    → Moves whole (at_start begin) first next
    (by_either (by_either ended (only_if enough through)) (only_if within (by_next through x)))
swept_still {a} enough within least most done {through} {x} {next = next} more is may still so_far
    moved =
    let none : size a ≡ 0 = omega (arith, moved.at, still) in
    let here = moves_entered {e = through} moved in
    let end = by_next through x in
    let l = least - (done + 1) in
    let m = most - (done + 1) in
    let few : IsTrue within ↔ (l ≤ m) = (
      λ h. let all = may.0 h in omega arith,
      λ all. may.1 (omega arith),
    ) in
    let sizes : size (between a l m) ≡ 0 = size_between a l m ∙ ap (λ n. m * n) none ∙ omega arith
    in
    (swept_copy enough least most done more is so_far moved).completes next (only_if within end)
    (moves_without end (only_if within end) sizes
    (λ marks. ends_copies a end.before within l m none few (λ h. ((without_ends none
    here.step.ends).0 h).1))
    (λ marks. ends_copies a end.after within l m none few (λ h. ((without_ends none here.ends).0 h).1))
    (λ marks. ends_copies a end.after_entered within l m none few (λ h. ((without_ends none
    here.ends_too).0 h).1)))

pub swept_still_plus : {whole a : Plain} {begin : Bool} (least done : ℕ) {through x x' : Reach}
    {first now next last : Sweep} → done < least → next.at ≡ now.at
    → Swept whole (at_least a (suc (least - done))) begin through first now nowhere
    → Moves a (at_start through.before) now next x → Moves (plus a) (at_start x.before) next last x'
    → Moves whole (at_start begin) first last (by_next (by_next through x) x')
swept_still_plus {a} least done {through} {x} {x'} {last = last} more still so_far moved again =
    let none : size a ≡ 0 = omega (arith, moved.at, still) in
    let n = least - (done + 1) in
    let sizes : size (at_least a (suc n)) ≡ 0 = size_at_least a (suc n) ∙
    ap (λ m. max (suc n) 1 * m) none ∙ omega arith in
    let words = plus_nil a in
    let others = at_least_nil a n in
    (swept_goes_on least done more so_far moved).completes last (by_next (by_next through x) x')
    (moves_as none sizes (
      λ w. others.1 (words.0 w),
      λ w. words.1 (others.0 w),
    ) (moves_entered {e = by_next through x} again))

-- without positions a sweep stands before any number of copies
pub before_still : {whole a : Plain} {begin : Bool} (least done : ℕ) {through x ended : Reach}
    {first now next : Sweep} → done < least → next.at ≡ now.at
    → Swept whole (at_least a (suc (least - done))) begin through first now ended
    → Moves a (at_start through.before) now next x → IsBefore (plus a) next
before_still {a} least done {next = next} more still so_far moved =
    let none : size a ≡ 0 = omega (arith, moved.at, still) in
    let own = own_few a in
    let few = rounds_without a none in
    record {
      marks = let fit = (swept_goes_on least done more so_far moved).before.marks in
          omega (arith, fit, none);
      rounds = λ some. absurd (omega (arith, some, none));
      so = rounds_free (plus a) (drop next.at next.marks.items) (drop next.round next.rounds.items)
          (omega (arith, own, few, none));
    }
