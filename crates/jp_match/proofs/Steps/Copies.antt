-- Marks of copies of one class, which move at once.
use Rattle.std.proofs.Common.{◌≡◌, ◌↔◌, ◌⊎◌, inl, inr, ℕ, zero, suc, ◌+◌, ◌-◌, ◌*◌, ◌≤◌, ◌<◌, Bool}
use Rattle.std.proofs.Common.{true, false, ◌||◌, ◌&&◌, List, [], ◌∷◌, ◌++◌, length, drop, take}
use Rattle.std.proofs.Common.{get_or}
use Rattle.std.proofs.Common.{refl, sym, ap, ◌∙◌, subst, arith}
use Rattle.std.specs.Bool.{IsTrue}
use Rattle.std.proofs.lemmas.Bool.{cases_lt}
use Rattle.std.proofs.lemmas.List.{get_or-drop, get_or-take, get_or_append_left}
use Rattle.std.proofs.lemmas.List.{get_or-append_right}
use Rattle.std.proofs.lemmas.List.{length-take, length-drop, length-append, get_or_past, take_all}
use Rattle.jp_iregexp.specs.declared.class.ClassElement.{ClassElement}
use Rattle.jp_iregexp.specs.Class.{class_holds}
use Rattle.jp_iregexp.specs.Language.{Power}
use Rattle.jp_match.specs.declared.sweep.Reach.{Reach}
use Rattle.jp_match.specs.declared.sweep.Sweep.{Sweep}
use Rattle.jp_match.specs.Bounds.{MakesAtMost}
use Rattle.jp_match.specs.Private.Copies.{enters, IsEndMarked, IsNoneEnough, AreStepped}
use Rattle.jp_match.specs.Private.Marks.{size, Rest, Ends, Steps}
use Rattle.jp_match.specs.Private.OneClass.{IsOneClass}
use Rattle.jp_match.specs.Private.Plain.{Plain, Words, between}
use Rattle.jp_match.specs.Private.Sweeps.{rounds_of, IsBefore, IsSameOutside, Moves}
use Rattle.jp_match.specs.Private.Sweeps.{at_start}
use Rattle.jp_match.proofs.Bools.{and_false, and_true, or_false}
use Rattle.jp_match.proofs.Steps.EmptyWords.{powers_nil}
use Rattle.jp_match.proofs.Steps.EndParts.{joined_nil, nil_before}
use Rattle.jp_match.proofs.Steps.Rounding.{first_same}
use Rattle.jp_match.proofs.Steps.Sizes.{size_between, rounds_between, rounds_free}
use Rattle.jp_match.proofs.Steps.StepParts.{IsSameBefore, ends_same, step_same, step_empty}
use Rattle.jp_match.proofs.Steps.StepParts.{step_nothing, step_either, step_sequence}
use Rattle.jp_match.proofs.Steps.Unrolled.{between_to, between_of}
use Rattle.jp_match.proofs.Steps.Sweeping.{same_outside, tests_up_to}

-- the mark of one position tells whether its end is reached
mark_ends : (a : Plain) (negated : Bool) (items : List ClassElement) (optional : Bool) (marks : List
    Bool) → IsOneClass a negated items optional → IsTrue (get_or marks 0 false) ↔ Rest a marks []
mark_ends a negated items optional marks one =
    let m = get_or marks 0 false in
    let first = first_same (size a) 0 m marks one.sized refl in
    let ends = ends_same first (rw (and_false optional, or_false m) at (one.steps 0 false m (false &&
    class_holds negated items 0) refl).ends) in (
      λ h. elim (ends.is.0 h) [ inl r ↦ r | inr w ↦ absurd (let e = w.0 in cc) ],
      λ r. ends.is.1 (inl r),
    )

-- and it has the empty word where it is optional
optional_is : (a : Plain) (negated : Bool) (items : List ClassElement) (optional : Bool)
    → IsOneClass a negated items optional → IsTrue optional ↔ Words a []
optional_is a negated items optional one =
    let none = mark_ends a negated items optional (false ∷ []) one in
    let ends = rw (and_true optional) at (one.steps 0 true false (true && class_holds negated items
    0) refl).ends in (
      λ h. elim (ends.is.0 h) [ inl r ↦ absurd (let e = none.1 r in cc) | inr w ↦ w.1 ],
      λ w. ends.is.1 (inr (refl, w)),
    )

powers_enough : (L : List ℕ → Type 0) (optional : Bool) (least k : ℕ) → (L [] → IsTrue optional)
    → least ≤ k → Power L k [] → IsTrue optional ⊎ (least ≡ 0)
powers_enough L optional least zero is some words = inr (omega (arith, some))
powers_enough L optional least (suc k) is some words = inl (is (joined_nil {L = L} {M = Power L k} words).0)

none_enough : (a : Plain) (negated : Bool) (items : List ClassElement) (optional : Bool) (least most :
    ℕ) → IsOneClass a negated items optional
    → Words (between a least most) [] ↔ IsNoneEnough optional least most
none_enough a negated items optional least most one =
    let word = optional_is a negated items optional one in (
      λ w.
          let (k, some, few, words) = between_to a least most [] w in
          record {
            may = omega (arith, some, few);
            enough = powers_enough (Words a) optional least k word.1 some words;
          },
      λ h. elim h.enough [
        | inl o ↦ between_of a least most least [] (omega arith) h.may (powers_nil (Words a) least
            (word.0 o))
        | inr z ↦ let may = h.may in
            between_of a least most 0 [] (omega (arith, z)) (omega arith) refl
      ],
    )

later_mark : (n k : ℕ) (marks : List Bool) → n ≡ 1
    → get_or (drop n marks) k false ≡ get_or marks (suc k) false
later_mark n k marks one =
    let offset : n + k ≡ suc k = omega (arith, one) in
    get_or-drop n marks k false ∙ ap (λ i. get_or marks i false) offset

module _ (a : Plain) (negated : Bool) (items : List ClassElement) (optional : Bool)
    (one : IsOneClass a negated items optional) where
  -- the end is reached from the first copy, or from another one
  marked_first : (least fewer most : ℕ) (marks : List Bool) → fewer ≡ least - 1 → least ≤ suc most
      → Rest a marks [] → Words (between a fewer most) []
      → IsEndMarked optional least (suc most) marks
  marked_first least fewer most marks is may r w =
      let none = (none_enough a negated items optional fewer most one).0 w in
      record {
        copy = 0;
        within = omega arith;
        marked = (mark_ends a negated items optional marks one).1 r;
        may = may;
        enough = elim none.enough [ inl o ↦ inl o | inr z ↦ inr (omega (arith, is, z)) ];
      }

  marked_later : (least fewer most : ℕ) (marks : List Bool) → fewer ≡ least - 1
      → IsEndMarked optional fewer most (drop (size a) marks)
      → IsEndMarked optional least (suc most) marks
  marked_later least fewer most marks is h =
      let within = h.within in
      let may = h.may in
      record {
        copy = suc h.copy;
        within = omega arith;
        marked = sym (later_mark (size a) h.copy marks one.sized) ∙ h.marked;
        may = omega (arith, is, may);
        enough = elim h.enough [ inl o ↦ inl o | inr few ↦ inr (omega (arith, is)) ];
      }

  marked_of : (least most : ℕ) (marks : List Bool) → Rest (between a least most) marks []
      → IsEndMarked optional least most marks
  unfolding between
  marked_of zero zero marks r = absurd r
  marked_of zero (suc most) marks (inl r) = absurd r
  marked_of zero (suc most) marks (inr (inl j)) =
      let p = joined_nil j in
      marked_first zero zero most marks (omega arith) (omega arith) p.0 p.1
  marked_of zero (suc most) marks (inr (inr r)) =
      marked_later zero zero most marks (omega arith) (marked_of zero most (drop (size a) marks) r)
  marked_of (suc least) zero marks r = absurd r
  marked_of (suc least) (suc most) marks (inl j) =
      let p = joined_nil j in
      let none = (none_enough a negated items optional least most one).0 p.1 in
      let may = none.may in
      marked_first (suc least) least most marks (omega arith) (omega arith) p.0 p.1
  marked_of (suc least) (suc most) marks (inr r) =
      marked_later (suc least) least most marks (omega arith) (marked_of least most (drop (size a)
      marks) r)

  none_after : (least fewer most : ℕ) → fewer ≡ least - 1 → least ≤ suc most
      → (IsTrue optional ⊎ (least ≤ 1)) → Words (between a fewer most) []
  none_after least fewer most is may enough =
      (none_enough a negated items optional fewer most one).1 (record {
        may = omega (arith, is);
        enough = elim enough [ inl o ↦ inl o | inr few ↦ inr (omega (arith, is)) ];
      })

  fewer_enough : (least fewer copy : ℕ) → fewer ≡ least - 1
      → (IsTrue optional ⊎ (least ≤ suc (suc copy))) → IsTrue optional ⊎ (fewer ≤ suc copy)
  fewer_enough least fewer copy is enough = elim enough [
    | inl o ↦ inl o
    | inr few ↦ inr (omega (arith, is))
  ]

  marked_to : (least most copy : ℕ) (marks : List Bool) → copy < most
      → IsTrue (get_or marks copy false) → least ≤ most → (IsTrue optional ⊎ (least ≤ suc copy))
      → Rest (between a least most) marks []
  unfolding between
  marked_to least zero copy marks within marked may enough = absurd (omega arith)
  marked_to zero (suc most) zero marks within marked may enough =
      inr (inl (nil_before ((mark_ends a negated items optional marks one).0 marked) (none_after zero
      zero most (omega arith) may enough)))
  marked_to zero (suc most) (suc copy) marks within marked may enough =
      inr (inr (marked_to zero most copy (drop (size a) marks) (omega arith) (later_mark (size a)
      copy marks one.sized ∙ marked) (omega arith) (fewer_enough zero zero copy (omega arith)
      enough)))
  marked_to (suc least) (suc most) zero marks within marked may enough =
      inl (nil_before ((mark_ends a negated items optional marks one).0 marked) (none_after (suc
      least) least most (omega arith) may enough))
  marked_to (suc least) (suc most) (suc copy) marks within marked may enough =
      inr (marked_to least most copy (drop (size a) marks) (omega arith) (later_mark (size a) copy
      marks one.sized ∙ marked) (omega arith) (fewer_enough (suc least) least copy (omega arith)
      enough))

  ends_marked : (least most : ℕ) (marks : List Bool) (entered ended : Bool)
      → IsTrue ended ↔ (IsEndMarked optional least most marks ⊎ (IsTrue entered × IsNoneEnough
      optional least most)) → Ends (between a least most) entered marks ended
  ends_marked least most marks entered ended is =
      let none = none_enough a negated items optional least most one in
      record {
        is = (
          λ h. elim (is.0 h) [
            | inl m ↦ inl (marked_to least most m.copy marks m.within m.marked m.may m.enough)
            | inr v ↦ inr (v.0, none.1 v.1)
          ],
          λ w. is.1 (elim w [
            | inl r ↦ inl (marked_of least most marks r)
            | inr v ↦ inr (v.0, none.0 v.1)
          ]),
        );
      }

  -- a copy is entered as if it were the first of those that are left
  enters_later : (entered : Bool) (k : ℕ) (marks : List Bool)
      → enters optional entered marks (suc k) ≡
      enters optional (get_or marks 0 false || (optional && entered)) (drop (size a) marks) k
  enters_later entered zero marks = refl
  enters_later entered (suc k) marks =
      let before = enters_later entered k marks in
      let mark = later_mark (size a) k marks one.sized in
      ap (λ m. m || (optional && enters optional entered marks (suc k))) (sym mark) ∙
      ap (λ e. get_or (drop (size a) marks) k false || (optional && e)) before

  step_first : (c : ℕ) (entered holds : Bool) (before after : List Bool)
      → holds ≡ class_holds negated items c → get_or after 0 false ≡ (entered && holds)
      → Steps a c entered before after (get_or before 0 false || (optional && entered))
  step_first c entered holds before after is moved =
      let m = get_or before 0 false in
      let next = get_or after 0 false in
      step_same (first_same (size a) 0 m before one.sized refl) (first_same (size a) 0 next after
      one.sized refl) (one.steps c entered m next (moved ∙ ap (λ h. entered && h) is))

  moved_later : (most : ℕ) (entered holds : Bool) (before after : List Bool)
      → ((k : ℕ) → k < suc most → get_or after k false ≡ (enters optional entered before k && holds))
      → (k : ℕ) → k < most → get_or (drop (size a) after) k false ≡
      (enters optional (get_or before 0 false || (optional && entered)) (drop (size a) before) k &&
      holds)
  moved_later most entered holds before after moved k below =
      later_mark (size a) k after one.sized ∙ moved (suc k) (omega arith) ∙
      ap (λ e. e && holds) (enters_later entered k before)

  steps_copies : (c least most : ℕ) (entered holds : Bool) (before after : List Bool)
      → holds ≡ class_holds negated items c → ((k : ℕ) → k < most
      → get_or after k false ≡ (enters optional entered before k && holds))
      → (ended : Bool) × Steps (between a least most) c entered before after ended
  unfolding between
  steps_copies c zero zero entered holds before after is moved =
      (entered, step_empty)
  steps_copies c (suc least) zero entered holds before after is moved =
      (false, step_nothing)
  steps_copies c zero (suc most) entered holds before after is moved =
      let p = get_or before 0 false || (optional && entered) in
      let first = step_first c entered holds before after is (moved 0 (omega arith)) in
      let (q, rest) = steps_copies c zero most p holds (drop (size a) before) (drop (size a) after)
      is (moved_later most entered holds before after moved) in (
        entered || q,
        step_either step_empty (step_sequence first rest),
      )
  steps_copies c (suc least) (suc most) entered holds before after is moved =
      let p = get_or before 0 false || (optional && entered) in
      let first = step_first c entered holds before after is (moved 0 (omega arith)) in
      let (q, rest) = steps_copies c least most p holds (drop (size a) before) (drop (size a) after)
      is (moved_later most entered holds before after moved) in
      (q, step_sequence first rest)

-- a part of a list that is written anew
front_length : (at : ℕ) (xs : List Bool) → at ≤ length xs → length (take at xs) ≡ at
front_length at xs fit = let e = length-take at xs in omega (arith, e)

put_outside : (at n : ℕ) (xs ys : List Bool) → at + n ≤ length xs → length ys ≡ n
    → IsSameOutside at (at + n) xs (take at xs ++ (ys ++ drop n (drop at xs)))
put_outside at n xs ys fit long =
    let back = drop n (drop at xs) in
    let front = front_length at xs (omega arith) in
    let after = length-drop at xs in
    let last = length-drop n (drop at xs) in
    let both = length-append ys back in
    let all = length-append (take at xs) (ys ++ back) in
    record {
      same_length = omega (arith, front, after, last, both, all, long);
      below = λ k under. get_or_append_left (take at xs) (ys ++ back) false k (omega (arith, front))
          ∙ get_or-take at xs k false under;
      above = λ k over.
          let offset : at + (n + (k - at - n)) ≡ k = omega arith in
          get_or-append_right (take at xs) (ys ++ back) at k false front (omega arith) ∙
          get_or-append_right ys back n (k - at) false long (omega arith) ∙
          get_or-drop n (drop at xs) (k - at - n) false ∙
          get_or-drop at xs (n + (k - at - n)) false ∙ ap (λ i. get_or xs i false) offset;
    }

pub put_length : (at n : ℕ) (xs ys : List Bool) → at + n ≤ length xs
    → length ys ≡ length (take n (drop at xs))
    → length (take at xs ++ (ys ++ drop n (drop at xs))) ≡ length xs
put_length at n xs ys fit long =
    let after = length-drop at xs in
    let part = length-take n (drop at xs) in
    let sized : length ys ≡ n = omega (arith, after, part, long) in
    (put_outside at n xs ys fit sized).same_length

put_there : (at n : ℕ) (xs ys back : List Bool) → at + n ≤ length xs → length ys ≡ n
    → IsSameBefore n ys (drop at (take at xs ++ (ys ++ back)))
put_there at n xs ys back fit long =
    let front = front_length at xs (omega arith) in
    let rest = ys ++ back in
    record {
      each = λ k below.
          let offset : at + k - at ≡ k = omega arith in
          sym (get_or-drop at (take at xs ++ rest) k false ∙ get_or-append_right (take at xs) rest
          at (at + k) false front (omega arith) ∙ ap (λ i. get_or rest i false) offset ∙
          get_or_append_left ys back false k (omega (arith, long)));
    }

-- there are marks for as many copies
pub copies_fit : {a : Plain} {negated : Bool} {items : List ClassElement} {optional : Bool} (least most :
    ℕ) {sweep : Sweep} → IsOneClass a negated items optional → IsBefore (between a least most) sweep
    → sweep.at + most ≤ length sweep.marks.items
copies_fit {a} least most one before =
    let size = size_between a least most ∙ ap (λ n. most * n) one.sized in
    omega (arith, before.marks, size)

-- the sweep has written anew the marks of as many copies
pub record Writes (now last : Sweep) (count : ℕ) (marks : List Bool) : Type 0 where
  pub char : last.c ≡ now.c
  pub at : last.at ≡ now.at + count
  pub round : last.round ≡ now.round
  pub rounds : last.rounds.items ≡ now.rounds.items
  pub tests : MakesAtMost 1 now.tests last.tests
  pub marks_are : last.marks.items ≡ take now.at now.marks.items ++ (marks ++ drop count (drop now.at
      now.marks.items))

pub moves_copies : {a : Plain} {negated : Bool} {items : List ClassElement} {optional : Bool}
    (least most : ℕ) {e holds : Bool} {now last : Sweep} {marks : List Bool} {x : Reach} → 1 ≤ most
    → IsOneClass a negated items optional → holds ≡ class_holds negated items now.c
    → IsBefore (between a least most) now
    → AreStepped optional e holds least (take most (drop now.at now.marks.items)) marks x.before x.after x.after_entered → Writes now last most marks
    → Moves (between a least most) (at_start e) now last x
moves_copies {a} {negated} {items} {optional} least most {e} {holds} {now} {last} {marks} {x}
    some one is before stepped over =
    let p = x.before in
    let f = x.after in
    let t = x.after_entered in
    let whole = between a least most in
    let xs = now.marks.items in
    let old = take most (drop now.at xs) in
    let sized : size whole ≡ most = size_between a least most ∙ ap (λ n. most * n) one.sized ∙ omega arith in
    let still : rounds_of whole ≡ 0 = rounds_between a least most ∙ ap (λ n. most * n) one.no_rounds ∙
    omega arith in
    let fit = copies_fit least most one before in
    let long : length old ≡ most = omega (
      arith,
      length-drop now.at xs,
      length-take most (drop now.at
          xs),
      fit,
    ) in
    let now_long : length marks ≡ most = stepped.moved.same_length ∙ long in
    let back = drop most (drop now.at xs) in
    let same : IsSameBefore (size whole) old (drop now.at xs) = record {
      each = λ k below. get_or-take most (drop now.at xs) k false (omega (arith, below, sized));
    } in
    let there : IsSameBefore (size whole) marks (drop now.at last.marks.items) = subst (λ zs.
    IsSameBefore (size whole) marks (drop now.at zs)) (sym over.marks_are) (subst (λ n.
    IsSameBefore n marks (drop now.at (take now.at xs ++ (marks ++ back)))) (sym sized)
    (put_there now.at most xs marks back fit now_long)) in
    let steps = steps_copies a negated items optional one now.c least most e holds old marks is
    (λ k below. stepped.moved.each k (omega (arith, long))) in
    let ends_as : (zs : List Bool) (entered ended : Bool) → IsTrue ended ↔ (IsEndMarked optional
    least most zs ⊎ (IsTrue entered × IsNoneEnough optional least most))
    → Ends whole entered zs ended = λ zs. ends_marked a negated items optional one least most zs in
    record {
      over = record {
        char = over.char;
        at = omega (arith, over.at, sized);
        round = omega (arith, over.round, still);
        marks = subst (λ zs. IsSameOutside now.at last.at xs zs) (sym over.marks_are) (subst (λ end.
            IsSameOutside now.at end xs (take now.at xs ++ (marks ++ back))) (sym over.at)
            (put_outside now.at most xs marks fit now_long));
        rounds = same_outside over.rounds;
        tests = tests_up_to (omega (arith, sized, some)) over.tests;
      };
      step = step_same same there (record {
        left = steps.1.left;
        ends = ends_as old e p (subst (λ n. IsTrue p ↔ (IsEndMarked optional least n old ⊎ (IsTrue
            e × IsNoneEnough optional least n))) long stepped.was_so);
      });
      ends = ends_same there (ends_as marks false f (let so = subst (λ n. IsTrue f ↔ IsEndMarked optional least n marks) long stepped.is_so
          in (λ h. inl (so.0 h), λ w. elim w [ inl m ↦ so.1 m | inr v ↦ absurd (let e = v.0 in cc) ])));
      ends_too = ends_same there (ends_as marks true t (let so = subst (λ n. IsTrue t ↔ (IsEndMarked optional least n marks ⊎
          IsNoneEnough optional least n)) long stepped.is_too_so in (
            λ h. elim (so.0 h) [ inl m ↦ inl m | inr v ↦ inr (refl, v) ],
            λ w. so.1 (elim w [ inl m ↦ inl m | inr v ↦ inr v.1 ]),
          )));
      so = rounds_free whole (drop now.at last.marks.items) (drop now.round last.rounds.items)
          still;
    }

-- a mark in the copies from one on, which reach the end
pub marked_from : (optional any : Bool) (least first : ℕ) (marks : List Bool)
    → first ≡ least - 1 → least ≤ length marks → optional ≡ false
    → IsTrue any ↔ ((k : ℕ) × IsTrue (get_or (take (length marks - first) (drop first marks)) k
    false)) → IsTrue any ↔ IsEndMarked optional least (length marks) marks
marked_from optional any least first marks offset may not slice = (
  λ h.
      let (k, marked) = is.0 h in
      let here = sym (get_or-drop first marks k false) ∙ marked in
      record {
        copy = first + k;
        within = marked_within (first + k) marks here;
        marked = here;
        may = may;
        enough = inr (omega (arith, offset));
      },
  λ h. elim h.enough [
    | inl o ↦ absurd (let e = not in cc)
    | inr few ↦
        let at : first + (h.copy - first) ≡ h.copy = omega (arith, offset) in
        is.1 (
          h.copy - first,
          get_or-drop first marks (h.copy - first) false ∙ ap (λ i. get_or marks i false) at ∙
              h.marked,
        )
  ],
) where
  all : take (length marks - first) (drop first marks) ≡ drop first marks
  all = take_all (length marks - first) (drop first marks) (let d = length-drop first marks in omega
      (arith, d))

  is : IsTrue any ↔ ((k : ℕ) × IsTrue (get_or (drop first marks) k false))
  is = rw all at slice

  marked_within : (copy : ℕ) (marks : List Bool) → IsTrue (get_or marks copy false)
      → copy < length marks
  marked_within copy marks marked = elim (cases_lt copy (length marks)) [
    | inl below ↦ below
    | inr over ↦ absurd (let e = get_or_past marks copy false over in cc)
  ]
