-- What a scan keeps from one character to the next, as tests.
use Rattle.std.proofs.Common.{◌≡◌, ◌↔◌, inl, inr, ℕ, ◌≤◌, Bool, true, false, ◌||◌, ◌&&◌}
use Rattle.std.proofs.Common.{nat_le, List, [], drop, get_or, refl, sym, ◌∙◌, arith}
use Rattle.std.specs.Bool.{IsTrue}
use Rattle.std.proofs.lemmas.Bool.{leb-true, le-leb, cases_lt}
use Rattle.jp_iregexp.specs.Tree.{Tree}
use Rattle.jp_match.specs.Private.Plain.{Plain, Words, class, nothing, either, empty, sequence}
use Rattle.jp_match.specs.Private.Plain.{plus, unrolled}
use Rattle.jp_match.specs.Private.EmptyWord.{has_empty}
use Rattle.jp_match.specs.Private.Marks.{size, Star, Rest, Ends}
use Rattle.jp_match.specs.Private.Sweeps.{own_rounds, rounds_of, Rounds, takes_none, marks_end}
use Rattle.jp_match.specs.Private.Sweeps.{is_same, rounds_end}
use Rattle.jp_match.proofs.Bools.{or_is, or_false, or_iff, and_iff, same_iff, then_iff}
use Rattle.jp_match.proofs.Steps.EmptyWords.{empty_is}
use Rattle.jp_match.proofs.Steps.EndParts.{joined_nil, nil_before, nil_is}
use Rattle.jp_match.proofs.Steps.Repeating.{plus_nil}
use Rattle.jp_match.proofs.Steps.Sizes.{own_one}
use Rattle.jp_match.proofs.Steps.StepParts.{rest_none, none_dropped}
use Rattle.jp_match.proofs.Steps.Unrolled.{unrolled-words}

pub takes_none_is : (a : Plain) → IsTrue (takes_none a) ↔ Words a []
takes_none_is (class negated items) = (λ h. absurd (cc), λ w. absurd (let e = w.2 in cc))
takes_none_is nothing = (λ h. absurd (cc), λ w. absurd w)
takes_none_is (either a b) = or_iff (takes_none_is a) (takes_none_is b)
takes_none_is empty = (λ h. refl, λ w. refl)
takes_none_is (sequence a b) = then_iff (and_iff (takes_none_is a) (takes_none_is b)) (nil_is {L =
    Words a} {M = Words b})
takes_none_is (plus a) = then_iff (takes_none_is a) ((plus_nil a).1, (plus_nil a).0)

pub marks_end_is : (a : Plain) (marks : List Bool) → IsTrue (marks_end a marks) ↔ Rest a marks []
marks_end_is (class negated items) marks = (λ h. (h, refl), λ r. r.0)
marks_end_is nothing marks = (λ h. absurd (cc), λ r. absurd r)
marks_end_is (either a b) marks = or_iff (marks_end_is a marks) (marks_end_is b (drop (size a) marks))
marks_end_is empty marks = (λ h. absurd (cc), λ r. absurd r)
marks_end_is (sequence a b) marks = or_iff (then_iff (and_iff (marks_end_is a marks) (takes_none_is
    b)) (nil_is {L = Rest a marks} {M = Words b})) (marks_end_is b (drop (size a) marks))
marks_end_is (plus a) marks = then_iff (marks_end_is a marks) (
  λ r. nil_before r (0, refl),
  λ r. (joined_nil {L = Rest a marks} {M = Star (Words a)} r).0,
)

alike : (a b : Bool) → IsTrue a ↔ IsTrue b → a ≡ b
alike true b h = sym (h.0 refl)
alike false true h = h.1 refl
alike false false h = refl

-- the tests tell whether the end is reached
pub ends_test : (a : Plain) (entered : Bool) (marks : List Bool)
    → Ends a entered marks (marks_end a marks || (entered && takes_none a))
ends_test a entered marks = record {
  is = or_iff (marks_end_is a marks) (and_iff (same_iff entered) (takes_none_is a));
}

-- and no other answer is exact
ends_unique : {a : Plain} {entered : Bool} {marks : List Bool} {p q : Bool}
    → Ends a entered marks p → Ends a entered marks q → p ≡ q
ends_unique {p = p} {q} h k = alike p q (λ i. k.is.1 (h.is.0 i), λ i. h.is.1 (k.is.0 i))

pub ends_are : (a : Plain) (marks : List Bool) (p : Bool) → Ends a false marks p
    → p ≡ marks_end a marks
ends_are a marks p ends = ends_unique ends (ends_test a false marks) ∙ or_false (marks_end a marks)

pub ends_are_entered : (a : Plain) (marks : List Bool) (p : Bool) → Ends a true marks p
    → p ≡ (marks_end a marks || takes_none a)
ends_are_entered a marks p ends = ends_unique ends (ends_test a true marks)

absorbed : (m e n : Bool) → (m || (e && (m || n))) ≡ (m || (e && n))
absorbed true e n = refl
absorbed false e n = refl

pub ends_by : (a : Plain) (entered : Bool) (marks : List Bool) (p q : Bool)
    → p ≡ marks_end a marks → q ≡ (marks_end a marks || takes_none a)
    → Ends a entered marks (p || (entered && q))
ends_by a entered marks p q is too =
    rw (is, too, absorbed (marks_end a marks) entered (takes_none a)) (ends_test a entered marks)

is_same_iff : (a b : Bool) → IsTrue (is_same a b) ↔ (IsTrue a ↔ IsTrue b)
is_same_iff true b = (λ h. (λ _. h, λ _. refl), λ h. h.0 refl)
is_same_iff false true = (λ h. absurd (cc), λ h. absurd (let e = h.1 refl in cc))
is_same_iff false false = (λ h. same_iff false, λ h. refl)

-- what is kept of one repeat is so
kept_is : (own : ℕ) (bit end : Bool) {P : Type 0} → own ≤ 1 → IsTrue end ↔ P
    → IsTrue (nat_le own 0 || is_same bit end) ↔ (own ≡ 1 → IsTrue bit ↔ P)
kept_is own bit end few is = (
  λ h one. elim ((or_is (nat_le own 0) (is_same bit end)).0 h) [
    | inl n ↦ absurd (let none = leb-true own 0 n in omega (arith, one))
    | inr s ↦ then_iff ((is_same_iff bit end).0 s) is
  ],
  λ so. (or_is (nat_le own 0) (is_same bit end)).1 (elim (cases_lt own 1) [
    | inl none ↦ inl (le-leb own 0 (omega arith))
    | inr one ↦ inr ((is_same_iff bit end).1 (then_iff (so (omega arith)) (is.1, is.0)))
  ]),
)

-- the test tells whether what is kept is so
pub rounds_is : (a : Plain) (marks rounds : List Bool)
    → IsTrue (rounds_end a marks rounds) ↔ Rounds a marks rounds
rounds_is (class negated items) marks rounds = (λ h. tt, λ h. refl)
rounds_is nothing marks rounds = (λ h. tt, λ h. refl)
rounds_is (either a b) marks rounds = and_iff (rounds_is a marks rounds) (rounds_is b (drop (size a)
    marks) (drop (rounds_of a) rounds))
rounds_is empty marks rounds = (λ h. tt, λ h. refl)
rounds_is (sequence a b) marks rounds = and_iff (rounds_is a marks rounds) (rounds_is b (drop (size
    a) marks) (drop (rounds_of a) rounds))
rounds_is (plus a) marks rounds = and_iff (kept_is (own_rounds a) (get_or rounds 0 false) (marks_end
    a marks) (own_one a) (marks_end_is a marks)) (rounds_is a marks (drop (own_rounds a) rounds))

-- without marks and rounds what is kept is so
pub rounds_fresh : (a : Plain) (marks rounds : List Bool)
    → ((k : ℕ) → IsTrue (get_or marks k false) → ⊥)
    → ((k : ℕ) → IsTrue (get_or rounds k false) → ⊥) → Rounds a marks rounds
rounds_fresh (class negated items) marks rounds none still = tt
rounds_fresh nothing marks rounds none still = tt
rounds_fresh (either a b) marks rounds none still = (
  rounds_fresh a marks rounds none still,
  rounds_fresh b (drop (size a) marks) (drop (rounds_of a) rounds) (none_dropped (size a) marks none)
      (none_dropped (rounds_of a) rounds still),
)
rounds_fresh empty marks rounds none still = tt
rounds_fresh (sequence a b) marks rounds none still = (
  rounds_fresh a marks rounds none still,
  rounds_fresh b (drop (size a) marks) (drop (rounds_of a) rounds) (none_dropped (size a) marks none)
      (none_dropped (rounds_of a) rounds still),
)
rounds_fresh (plus a) marks rounds none still = (
  λ one. (λ h. absurd (still 0 h), λ r. absurd (rest_none a marks [] none r)),
  rounds_fresh a marks (drop (own_rounds a) rounds) none (none_dropped (own_rounds a) rounds still),
)

-- the end is then reached by the empty word alone
pub ends_fresh : (t : Tree) (marks : List Bool) → ((k : ℕ) → IsTrue (get_or marks k false) → ⊥)
    → Ends (unrolled t) true marks (has_empty t)
ends_fresh t marks none = record {
  is = (
    λ h. inr (refl, (unrolled-words t []).1 ((empty_is t).0 h)),
    λ w. elim w [
      | inl r ↦ absurd (rest_none (unrolled t) marks [] none r)
      | inr v ↦ (empty_is t).1 ((unrolled-words t []).0 v.1)
    ],
  );
}
