-- Sweeps over one position, and over the rounds of a repeat.
use Rattle.std.proofs.Common.{◌≡◌, ◌↔◌, ◌⊎◌, inl, inr, ℕ, ◌+◌, ◌≤◌, ◌<◌, min, Bool}
use Rattle.std.proofs.Common.{false, ◌||◌, ◌&&◌, List, [], ◌∷◌, length, drop, set, get_or, refl}
use Rattle.std.proofs.Common.{sym}
use Rattle.std.proofs.Common.{ap, ◌∙◌, subst, arith, ◌≢◌, Vec, Global}
use Rattle.std.specs.Bool.{IsTrue}
use Rattle.std.proofs.lemmas.Bool.{cases_lt}
use Rattle.std.proofs.lemmas.List.{get_or-drop, length-set, get_or-set_other, get_or-set_same}
use Rattle.jp_iregexp.specs.declared.class.ClassElement.{ClassElement}
use Rattle.jp_match.specs.declared.sweep.Reach.{Reach}
use Rattle.jp_match.specs.declared.sweep.Sweep.{Sweep}
use Rattle.jp_match.specs.Private.Plain.{Plain, class, plus}
use Rattle.jp_match.specs.Private.Marks.{size, Rest, Ends}
use Rattle.jp_match.specs.Private.Sweeps.{own_rounds, rounds_of, IsBefore, IsSameOutside}
use Rattle.jp_match.specs.Private.Sweeps.{Moves, at_start}
use Rattle.jp_match.proofs.Bools.{or_is, and_is}
use Rattle.jp_match.proofs.Steps.EndParts.{ends_plus}
use Rattle.jp_match.proofs.Steps.Repeating.{plus_nil}
use Rattle.jp_match.proofs.Steps.Sizes.{own_few, rounds_without, rounds_free}
use Rattle.jp_match.proofs.Steps.StepParts.{IsSameBefore, same_back}
use Rattle.jp_match.proofs.Steps.StepParts.{step_plus}
use Rattle.jp_match.proofs.Steps.StepParts.{ends_without, without_ends, step_without}
use Rattle.jp_match.proofs.Steps.Sweeping.{rounds_same, same_itself, same_there}

pub first_same : (n at : ℕ) (b : Bool) (xs : List Bool) → n ≡ 1 → b ≡ get_or xs at false
    → IsSameBefore n (b ∷ []) (drop at xs)
first_same n at b xs one is = record {
  each = λ k below.
      let zero_is : 0 ≡ k = omega (arith, one) in
      let offset : at ≡ at + 0 = omega arith in
      subst (λ i. get_or (b ∷ []) i false ≡ get_or (drop at xs) i false) zero_is
      (is ∙ ap (λ i. get_or xs i false) offset ∙ sym (get_or-drop at xs 0 false));
}

-- a class that is repeated needs no round: its mark tells whether one has ended
pub moves_class_plus : {negated : Bool} {items : List ClassElement} {e again : Bool} {now last
    : Sweep} {x : Reach} → again ≡ (e || get_or now.marks.items now.at false)
    → Moves (class negated items) (at_start again) now last x
    → Moves (plus (class negated items)) (at_start e) now last x
moves_class_plus {e} {now} is h =
    let offset : now.at + 0 ≡ now.at = omega arith in
    let first = get_or-drop now.at now.marks.items 0 false ∙
    ap (λ i. get_or now.marks.items i false) offset in
    record {
      over = h.over;
      step = step_plus (
        λ i. elim ((or_is e (get_or now.marks.items now.at false)).0 (sym is ∙ i)) [
          | inl l ↦ inl l
          | inr r ↦ inr (first ∙ r, refl)
        ],
        λ w. is ∙ (or_is e (get_or now.marks.items now.at false)).1 (elim w [
          | inl l ↦ inl l
          | inr r ↦ inr (sym first ∙ r.0)
        ]),
      ) h.step;
      ends = ends_plus h.ends;
      ends_too = ends_plus h.ends_too;
      so = (λ one. absurd (omega (arith, one)), tt);
    }

-- a sweep goes into a repeat: past its own round
abbrev pub inside : Sweep → ℕ → Sweep
inside now round = record now { round = round }

pub before_inner : {a : Plain} {now : Sweep} (round : ℕ) → own_rounds a ≡ min (size a) 1
    → IsBefore (plus a) now → (1 ≤ size a → round ≡ now.round + 1) → IsBefore a (inside now round)
before_inner {a} {now} round own h next = record {
  marks = h.marks;
  rounds = λ some.
      let fit = h.rounds some in
      let one : own_rounds a ≡ 1 = omega (arith, own, some) in
      omega (arith, fit, one, next some);
  so = elim (cases_lt 0 (size a)) [
    | inl some ↦
        let one : own_rounds a ≡ 1 = omega (arith, own, some) in
        let offset : round ≡ now.round + own_rounds a = omega (arith, next (omega arith), one) in
        rounds_same a same_itself (same_back (same_there now.round (own_rounds a) round (rounds_of a)
        now.rounds.items now.rounds.items offset (λ k over. refl))) h.so.1
    | inr none ↦ rounds_free a (drop now.at now.marks.items) (drop round now.rounds.items)
        (rounds_without a (omega arith))
  ];
}

-- a round may begin again where the repeat is entered or a round has ended
may_begin : (a : Plain) (e again bit : Bool) (marks : List Bool) → again ≡ (e || bit)
    → (IsTrue bit ↔ Rest a marks []) → IsTrue again ↔ (IsTrue e ⊎ Rest a marks [])
may_begin a e again bit marks is so = (
  λ h. elim ((or_is e bit).0 (sym is ∙ h)) [ inl l ↦ inl l | inr r ↦ inr (so.0 r) ],
  λ w. is ∙ (or_is e bit).1 (elim w [ inl l ↦ inl l | inr r ↦ inr (so.1 r) ]),
)

ends_rest : {a : Plain} {marks : List Bool} {f : Bool} → Ends a false marks f
    → IsTrue f ↔ Rest a marks []
ends_rest ends = (
  λ h. elim (ends.is.0 h) [ inl r ↦ r | inr w ↦ absurd (let e = w.0 in cc) ],
  λ r. ends.is.1 (inl r),
)

-- and comes out of it: what has become of the round is kept
pub moves_rounds : {a : Plain} {e again : Bool} {now moved : Sweep} {round : ℕ} {rounds : Vec
    Bool Global} {x : Reach} → own_rounds a ≡ 1 → 1 ≤ size a → IsBefore (plus a) now
    → round ≡ now.round + 1 → again ≡ (e || get_or now.rounds.items now.round false)
    → Moves a (at_start again) (inside now round) moved x
    → rounds.items ≡ set moved.rounds.items now.round x.after
    → Moves (plus a) (at_start e) now (record moved { rounds = rounds }) x
moves_rounds {a} {e = e} {again = again} {now} {moved} {round} {rounds} {x} one some is next begins h
    out =
    let f = x.after in
    let offset : now.round + 0 ≡ now.round = omega arith in
    let bit = get_or-drop now.round now.rounds.items 0 false ∙
    ap (λ i. get_or now.rounds.items i false) offset in
    let so : IsTrue (get_or now.rounds.items now.round false) ↔ Rest a (drop now.at now.marks.items)
    [] = (λ i. (is.so.0 one).0 (bit ∙ i), λ r. sym bit ∙ (is.so.0 one).1 r) in
    let fit = is.rounds some in
    let within : now.round < length moved.rounds.items = omega (
      arith,
      fit,
      one,
      h.rounds.same_length,
    ) in
    let written : get_or (drop now.round rounds.items) 0 false ≡ f =
    get_or-drop now.round rounds.items 0 false ∙ ap (λ i. get_or rounds.items i false) offset ∙
    ap (λ xs. get_or xs now.round false) out ∙
    get_or-set_same moved.rounds.items now.round f false within in
    let others : (k : ℕ) → k ≢ now.round → get_or rounds.items k false ≡ get_or moved.rounds.items k
    false = λ k ne. ap (λ xs. get_or xs k false) out ∙ (rw get_or-set_other refl) in
    let kept = same_there now.round (own_rounds a) round (rounds_of a) moved.rounds.items
    rounds.items (omega (arith, next, one)) (λ k over. sym (others k (omega (arith, next)))) in
    record {
      over = record {
        char = h.char;
        at = h.at;
        round = omega (arith, h.round, next, one);
        marks = h.marks;
        rounds = record {
          same_length = ap length out ∙ length-set moved.rounds.items now.round f ∙
              h.rounds.same_length;
          below = λ k under. others k (omega arith) ∙ h.rounds.below k (omega (arith, next));
          above = λ k over. others k (omega (arith, h.round, next)) ∙ h.rounds.above k over;
        };
        tests = h.tests;
      };
      step = step_plus (may_begin a e again (get_or now.rounds.items now.round false) (drop now.at
          now.marks.items) begins so) h.step;
      ends = ends_plus h.ends;
      ends_too = ends_plus h.ends_too;
      so = (
        λ own. let r = ends_rest h.ends in (λ i. r.0 (sym written ∙ i), λ w. written ∙ r.1 w),
        rounds_same a same_itself kept h.so,
      );
    }

-- a list that is the same outside of no offset is the same
outside_nothing : (n m : ℕ) (xs ys : List Bool) → IsSameOutside n n xs ys
    → IsSameOutside m m xs ys
outside_nothing n m xs ys h = record {
  same_length = h.same_length;
  below = λ k under. everywhere k;
  above = λ k over. everywhere k;
} where
  everywhere : (k : ℕ) → get_or ys k false ≡ get_or xs k false
  everywhere k = elim (cases_lt k n) [
    | inl under ↦ h.below k under
    | inr over ↦ h.above k (omega arith)
  ]

-- a repeat without positions: a round of it is there only where it is entered
pub moves_idle : {a : Plain} {e again : Bool} (bit : Bool) {now moved : Sweep} {round : ℕ} {x :
    Reach} → size a ≡ 0 → again ≡ (e || bit) → Moves a (at_start again) (inside now round) moved x
    → Moves (plus a) (at_start e) now (record moved { round = now.round }) (record {
      before =
          x.before && e;
      after = x.after;
      after_entered = x.after_entered;
    })
moves_idle {a} {e = e} bit {now} {moved} {round} {x} none begins h =
    let still = rounds_without a none in
    let own = own_few a in
    let word = without_ends none h.step.ends in
    let nil = plus_nil a in
    let no_round : moved.round ≡ round = omega (arith, h.round, still) in
    record {
      over = record {
        char = h.char;
        at = h.at;
        round = omega (arith, still, own, none);
        marks = h.marks;
        rounds = outside_nothing round now.round now.rounds.items moved.rounds.items (subst (λ end.
            IsSameOutside round end now.rounds.items moved.rounds.items) no_round h.rounds);
        tests = h.tests;
      };
      step = step_without none (ends_without none (
        λ i. let q = (and_is x.before e).0 i in (q.1, nil.1 ((word.0 q.0).1)),
        λ w. (and_is x.before e).1 (word.1 (begins ∙ (or_is e bit).1 (inl w.0), nil.0 w.1), w.0),
      ));
      ends = ends_plus h.ends;
      ends_too = ends_plus h.ends_too;
      so = rounds_free (plus a) (drop now.at moved.marks.items) (drop now.round moved.rounds.items)
          (omega (arith, still, own, none));
    }
