-- Rounds of a repeat that only the new offsets begin.
use Rattle.std.proofs.Common.{◌≡◌, ◌↔◌, ◌⊎◌, inl, inr, ℕ, zero, suc, ◌+◌, ◌<◌, ◌≤◌, Bool, true, false}
use Rattle.std.proofs.Common.{List, Option, Some, None, Ok, length, get_or, cond, refl, sym, ap, ◌∙◌}
use Rattle.std.proofs.Common.{subst, arith}
use Rattle.std.proofs.lemmas.Bool.{cases_lt}
use Rattle.jp_iregexp.specs.Language.{Power, IsAtMost}
use Rattle.jp_iregexp.proofs.Membership.{at_most_below}
use Rattle.jp_match.specs.declared.search.Search.{Search}
use Rattle.jp_match.specs.Private.Counts.{Times, IsMostAfter}
use Rattle.jp_match.specs.Private.Offset.{Marked, Holds, Reached, IsImage}
use Rattle.jp_match.specs.Private.Search.{Leads}
use Rattle.jp_match.proofs.Sets.Reaching.{halfway, onward, reached_by, reached_still, still_reached}
use Rattle.jp_match.proofs.Sets.Repeats.{at_most_after, not_at_most, at_most_zero}
use Rattle.jp_match.proofs.Steps.EndParts.{joined_by}

true_or_not : (b : Bool) → (b ≡ true) ⊎ (b ≡ true → ⊥)
true_or_not true = inl refl
true_or_not false = inr (λ h. cc)

marked_or_not : (offsets : List Bool) (offset : ℕ) → Marked offsets offset ⊎ (Marked offsets offset → ⊥)
marked_or_not offsets offset = true_or_not (get_or offsets offset false)

-- what rounds over the new offsets alone have reached: with what the new offsets reach it is all, no
-- word leads out of it but to the new offsets, and none of those is in it
pub record Grows (L : List ℕ → Type 0) (most left : Option ℕ) (first now : Search) (reached : List
    Bool) : Type 0 where
  pub text : now.ground.text.now ≡ first.ground.text.now
  pub long : length reached ≡ length now.offsets.items
  pub each : (offset : ℕ) → (Marked reached offset ⊎ Reached (Times L left) now.ground.text.now
      now.offsets.items offset) ↔ Reached (Times L most) first.ground.text.now first.offsets.items offset
  pub closed : (offset : ℕ) → Reached L now.ground.text.now reached offset
      → Marked reached offset ⊎ Marked now.offsets.items offset
  pub apart : (offset : ℕ) → Marked now.offsets.items offset → Marked reached offset → ⊥
  pub kept : first.tests ≤ now.tests

module _ (L : List ℕ → Type 0) (text : List ℕ) where
  -- by any number of words: to what is reached, or on from a new offset by not more words
  leads_on : (reached now : List Bool) → ((offset : ℕ) → Reached L text reached offset
      → Marked reached offset ⊎ Marked now offset) → (k offset : ℕ)
      → Reached (Power L k) text reached offset → Marked reached offset ⊎
      ((words : ℕ) × (words ≤ k) × Reached (Power L words) text now offset)
  leads_on reached now closed zero offset r = inl (still_reached r)
  leads_on reached now closed (suc k) offset r =
      let way = halfway {L = L} {M = Power L k} r in
      elim (closed way.middle way.first) [
        | inl old ↦ elim (leads_on reached now closed k offset (way.second reached old)) [
          | inl marked ↦ inl marked
          | inr on ↦ let (words, fewer, there) = on in inr (words, omega (arith, fewer), there)
        ]
        | inr new ↦ inr (k, omega arith, way.second now new)
      ]

  -- an offset by no word
  by_no_word : (now : List Bool) (most : Option ℕ) (offset : ℕ) → length now ≡ suc (length text)
      → Marked now offset → Reached (Times L most) text now offset
  by_no_word now most offset long marked =
      let r = reached_still offset long marked in
      reached_by r r.begins (0, at_most_zero most, r.holds)

  module _ (left fewer : Option ℕ) (h : IsMostAfter left 1 (Some fewer)) (now united stepped next :
      List Bool) (step : IsImage L text now stepped) (kept : (offset : ℕ) → Marked now offset
      → Marked united offset) (rest : (offset : ℕ) → Marked next offset ↔ (Marked stepped offset × (Marked
      united offset → ⊥))) where
    -- an offset by a word more
    by_one_more : (offset : ℕ) → Reached (Times L fewer) text next offset
        → Reached (Times L left) text now offset
    by_one_more offset r =
        let first = (step.reached (length r.before)).0 ((rest (length r.before)).0 r.begins).0 in
        let whole = onward r first in
        let (k, few, words) = whole.holds.second in
        let count : 1 + k ≡ suc k = omega arith in
        reached_by whole whole.begins (
          suc k,
          subst (IsAtMost left) count ((at_most_after left 1 fewer k h).0 few),
          joined_by whole.holds whole.holds.first words,
        )

    -- from the new offsets by some words: none, or one and then others from where it leads
    from_now : ((offset : ℕ) → Reached L text united offset → Marked united offset ⊎ Marked next offset)
        → (k offset : ℕ) → IsAtMost left k → Reached (Power L k) text now offset
        → Marked united offset ⊎ Reached (Times L fewer) text next offset
    from_now closed zero offset within r = inl (kept offset (still_reached r))
    from_now closed (suc k) offset within r =
        let way = halfway {L = L} {M = Power L k} r in
        let count : suc k ≡ 1 + k = omega arith in
        let few = (at_most_after left 1 fewer k h).1 (subst (IsAtMost left) count within) in
        elim (marked_or_not united way.middle) [
          | inl marked ↦ elim (leads_on united next closed k offset (way.second united marked)) [
            | inl there ↦ inl there
            | inr on ↦
                let (words, less, there) = on in
                inr (reached_by there there.begins (
                  words,
                  at_most_below fewer k words less few,
                  there.holds,
                ))
          ]
          | inr not ↦
              let r' = way.second next ((rest way.middle).1 (
                (step.reached way.middle).1 way.first,
                not,
              )) in
              inr (reached_by r' r'.begins (k, few, r'.holds))
        ]

  -- where no word may be taken, only the offsets themselves are reached
  still_now : (now : List Bool) (left : Option ℕ) (offset : ℕ) → IsMostAfter left 1 None → (k : ℕ)
      → IsAtMost left k → Reached (Power L k) text now offset → Marked now offset
  still_now now left offset h zero within r = still_reached r
  still_now now left offset h (suc k) within r = absurd (not_at_most left 1 (suc k) h (omega arith)
      within)

pub grows_more : {L : List ℕ → Type 0} {most left fewer : Option ℕ} {first now stepped next : Search}
    {reached united : List Bool} {T E : Type 0} {x : T} → Grows L most left first now reached
    → IsMostAfter left 1 (Some fewer)
    → Holds (λ offset. Marked reached offset ⊎ Marked now.offsets.items offset) reached united
    → Leads {T = T} {E = E} L now stepped (Ok x) → Holds (λ offset. Marked stepped.offsets.items offset × (Marked
    united offset → ⊥)) stepped.offsets.items next.offsets.items
    → next.ground.text.now ≡ stepped.ground.text.now → next.tests ≡ stepped.tests
    → Grows L most fewer first next united
grows_more {L} {left = left} {fewer} {now = now} {stepped} {next} {united = united} so_far h both led
    rest text tests =
    let t = now.ground.text.now in
    let same : next.ground.text.now ≡ t = text ∙ led.text in
    let step = led.image in
    let closed : (offset : ℕ) → Reached L t united offset
    → Marked united offset ⊎ Marked next.offsets.items offset =
    λ offset r. elim (marked_or_not united offset) [
      | inl marked ↦ inl marked
      | inr fresh ↦ elim ((both.each (length r.before)).0 r.begins) [
        | inl old ↦ inl ((both.each offset).1 (so_far.closed offset (reached_by r old r.holds)))
        | inr new ↦ inr ((rest.each offset).1 (
          (step.reached offset).1 (reached_by r new r.holds),
          fresh,
        ))
      ]
    ] in
    let kept : (offset : ℕ) → Marked now.offsets.items offset → Marked united offset = λ offset m.
    (both.each offset).1 (inr m) in
    record {
      text = same ∙ so_far.text;
      long = both.same_length ∙ so_far.long ∙ sym (rest.same_length ∙ step.same_length);
      each = λ offset. rw same (
        λ e. (so_far.each offset).0 (elim e [
          | inl marked ↦ elim ((both.each offset).0 marked) [
            | inl old ↦ inl old
            | inr new ↦ inr (by_no_word L t now.offsets.items left offset now.sized new)
          ]
          | inr r ↦ inr (by_one_more L t left fewer h now.offsets.items united stepped.offsets.items
              next.offsets.items step kept rest.each offset r)
        ]),
        λ r. elim ((so_far.each offset).1 r) [
          | inl old ↦ inl ((both.each offset).1 (inl old))
          | inr on ↦ let (k, within, words) = on.holds in
              from_now L t left fewer h now.offsets.items united stepped.offsets.items
              next.offsets.items step kept rest.each closed k offset within (reached_by on on.begins
              words)
        ],
      );
      closed = rw same closed;
      apart = λ offset new old. ((rest.each offset).0 new).1 old;
      kept = omega (arith, so_far.kept, led.kept, tests);
    }

-- where the new offsets lead only to themselves, they and what is reached are all
grows_end : {L : List ℕ → Type 0} {most left : Option ℕ} {first now last : Search} {reached : List
    Bool} {T E : Type 0} {x : T} → Grows L most left first now reached → ((offset : ℕ)
    → Reached (Times L left) now.ground.text.now now.offsets.items offset → Marked now.offsets.items
    offset) → Holds (λ offset. Marked reached offset ⊎ Marked now.offsets.items offset) reached
    last.offsets.items → last.ground.text.now ≡ now.ground.text.now → last.tests ≡ now.tests
    → Leads {T = T} {E = E} (Times L most) first last (Ok x)
grows_end {L} {left = left} {first} {now} so_far still both text tests = record {
  text = text ∙ so_far.text;
  image = record {
    same_length = both.same_length ∙ so_far.long ∙ now.sized ∙
        ap (λ t. suc (length t)) so_far.text ∙ sym first.sized;
    reached = λ offset. (
      λ marked. (so_far.each offset).0 (elim ((both.each offset).0 marked) [
        | inl old ↦ inl old
        | inr new ↦ inr (by_no_word L now.ground.text.now now.offsets.items left offset now.sized new)
      ]),
      λ r. (both.each offset).1 (elim ((so_far.each offset).1 r) [
        | inl old ↦ inl old
        | inr on ↦ inr (still offset on)
      ]),
    );
  };
  kept = omega (arith, so_far.kept, tests);
}

pub grows_all : {L : List ℕ → Type 0} {most left : Option ℕ} {first now last : Search} {reached :
    List Bool} {T E : Type 0} {x : T} → Grows L most left first now reached
    → ((offset : ℕ) → Marked now.offsets.items offset → ⊥) → last.offsets.items ≡ reached
    → last.ground.text.now ≡ now.ground.text.now → last.tests ≡ now.tests
    → Leads {T = T} {E = E} (Times L most) first last (Ok x)
grows_all so_far none is text tests = grows_end so_far
    (λ offset r. absurd (none (length r.before) r.begins))
    (rw is (record {
      same_length = refl;
      each = λ offset. (λ m. inl m, λ e. elim e [ inl m ↦ m | inr new ↦ absurd (none offset new) ]);
    })) text tests

pub grows_last : {L : List ℕ → Type 0} {most left : Option ℕ} {first now last : Search} {reached
    united : List Bool} {T E : Type 0} {x : T} → Grows L most left first now reached
    → IsMostAfter left 1 None
    → Holds (λ offset. Marked reached offset ⊎ Marked now.offsets.items offset) reached united
    → last.offsets.items ≡ united → last.ground.text.now ≡ now.ground.text.now
    → last.tests ≡ now.tests → Leads {T = T} {E = E} (Times L most) first last (Ok x)
grows_last {L} {left = left} {now = now} so_far h both is text tests = grows_end so_far
    (λ offset r. let (k, within, words) = r.holds in
    still_now L now.ground.text.now now.offsets.items left offset h k within (reached_by r r.begins
    words)) (rw is both) text tests

-- how many offsets below one are not in the set
pub absent : List Bool → ℕ → ℕ
absent offsets zero = 0
absent offsets (suc n) = cond (get_or offsets n false) 0 1 + absent offsets n

absent_bit : (x y : Bool) → (x ≡ true → y ≡ true) → cond y 0 1 ≤ cond x 0 1
absent_bit true true h = omega arith
absent_bit true false h = absurd (let e = h refl in cc)
absent_bit false true h = omega arith
absent_bit false false h = omega arith

absent_less : (x y : Bool) → y ≡ true → (x ≡ true → ⊥) → cond y 0 1 < cond x 0 1
absent_less true y new old = absurd (old refl)
absent_less false true new old = omega arith
absent_less false false new old = absurd (cc)

module _ (xs ys : List Bool) (more : (k : ℕ) → Marked xs k → Marked ys k) where
  absent_le : (n : ℕ) → absent ys n ≤ absent xs n
  unfolding absent
  absent_le zero = omega arith
  absent_le (suc n) = omega (
    arith,
    absent_bit (get_or xs n false) (get_or ys n false) (more n),
    absent_le n,
  )

  -- an offset more in the set is one absent offset less
  pub absent_falls : (n offset : ℕ) → offset < n → Marked ys offset → (Marked xs offset → ⊥)
      → absent ys n < absent xs n
  unfolding absent
  absent_falls zero offset below new old = absurd (omega arith)
  absent_falls (suc n) offset below new old = elim (cases_lt offset n) [
    | inl earlier ↦ omega (
      arith,
      absent_bit (get_or xs n false) (get_or ys n false) (more n),
      absent_falls n offset earlier new old,
    )
    | inr here ↦
        let at : offset ≡ n = omega arith in
        omega (
          arith,
          absent_less (get_or xs n false) (get_or ys n false) (subst (Marked ys) at new)
              (λ m. old (subst (Marked xs) (sym at) m)),
          absent_le n,
        )
  ]
