-- What repeats reach.
use Rattle.std.proofs.Common.{◌≡◌, ◌↔◌, ◌⊎◌, inl, inr, ℕ, zero, suc, ◌+◌, ◌-◌, ◌≤◌, Bool, List, Ok, Result}
use Rattle.std.proofs.Common.{◌++◌, Option, Some, None, length, refl, sym, ap, ◌∙◌, subst, arith}
use Rattle.std.proofs.lemmas.List.{append_assoc}
use Rattle.std.proofs.lemmas.Result.{on_ok_weaker}
use Rattle.jp_iregexp.specs.Language.{Concatenation, Power, IsAtMost, Language}
use Rattle.jp_iregexp.specs.Tree.{Tree, repeat}
use Rattle.jp_match.specs.Private.Counts.{Times, IsMostAfter}
use Rattle.jp_match.specs.Private.Offset.{Marked, IsImage}
use Rattle.jp_match.specs.Private.Search.{Leads}
use Rattle.jp_match.specs.declared.search.Search.{Search}
use Rattle.jp_match.proofs.Sets.Reaching.{Completes, completes_more, image_by}
use Rattle.jp_match.proofs.Sets.Reaching.{image_joined, image_still}
use Rattle.jp_match.proofs.Steps.EndParts.{nil_before, joined_by}

-- a word of three parts, the first two joined or the last two
join_left : {L M N : List ℕ → Type 0} {word : List ℕ} → Concatenation L (Concatenation M N) word
    → Concatenation (Concatenation L M) N word
join_left h = record {
  prefix = h.prefix ++ h.second.prefix;
  suffix = h.second.suffix;
  is = h.is ∙ ap (λ w. h.prefix ++ w) h.second.is
      ∙ sym (append_assoc h.prefix h.second.prefix h.second.suffix);
  first = record {
    prefix = h.prefix;
    suffix = h.second.prefix;
    is = refl;
    first = h.first;
    second = h.second.first;
  };
  second = h.second.second;
}

join_right : {L M N : List ℕ → Type 0} {word : List ℕ} → Concatenation (Concatenation L M) N word
    → Concatenation L (Concatenation M N) word
join_right h = record {
  prefix = h.first.prefix;
  suffix = h.first.suffix ++ h.suffix;
  is = h.is ∙ ap (λ x. x ++ h.suffix) h.first.is
      ∙ append_assoc h.first.prefix h.first.suffix h.suffix;
  first = h.first.first;
  second = record {
    prefix = h.first.suffix;
    suffix = h.suffix;
    is = refl;
    first = h.first.second;
    second = h.second;
  };
}

-- so many words are first some of them and then the others
pub powers_joined : (L : List ℕ → Type 0) (m n s : ℕ) (w : List ℕ) → s ≡ m + n
    → Power L s w ↔ Concatenation (Power L m) (Power L n) w
powers_joined L zero n s w e =
    let count : s ≡ n = omega (arith, e) in (
      λ h. nil_before refl (subst (λ k. Power L k w) count h),
      λ h.
          let whole : h.suffix ≡ w = sym (h.is ∙ ap (λ x. x ++ h.suffix) h.first) in
          subst (λ k. Power L k w) (sym count) (subst (Power L n) whole h.second),
    )
powers_joined L (suc m) n zero w e = absurd (omega (arith, e))
powers_joined L (suc m) n (suc s) w e =
    let fewer : s ≡ m + n = omega (arith, e) in (
      λ h. join_left (joined_by h h.first ((powers_joined L m n s h.suffix fewer).0 h.second)),
      λ h.
          let j = join_right {L = L} {M = Power L m} {N = Power L n} h in
          joined_by j j.first ((powers_joined L m n s j.suffix fewer).1 j.second),
    )

-- a set that one word more leaves as it is stays so
image_settled : (L : List ℕ → Type 0) {text : List ℕ} {a : List Bool}
    → length a ≡ suc (length text) → IsImage L text a a → (k : ℕ) → IsImage (Power L k) text a a
image_settled L long same zero = image_still long
image_settled L long same (suc k) = image_joined same (image_settled L long same k)

-- so many words may be taken exactly if, once some are taken, the others may follow
pub at_most_after : (most : Option ℕ) (taken : ℕ) (after : Option ℕ) (k : ℕ)
    → IsMostAfter most taken (Some after) → IsAtMost after k ↔ IsAtMost most (taken + k)
at_most_after None taken None k h = (λ _. tt, λ _. tt)
at_most_after None taken (Some more) k h = absurd (cc)
at_most_after (Some most) taken None k h = absurd h
at_most_after (Some most) taken (Some more) k h = (λ w. omega arith, λ w. omega arith)

-- where so many may not be taken, more may not be either
pub not_at_most : (most : Option ℕ) (taken k : ℕ) → IsMostAfter most taken None → taken ≤ k
    → IsAtMost most k → ⊥
not_at_most None taken k h least within = absurd (cc)
not_at_most (Some most) taken k h least within = omega arith

pub at_most_zero : (most : Option ℕ) → IsAtMost most 0
at_most_zero None = tt
at_most_zero (Some most) = omega arith

-- a repeat takes the least words and then not more than the most after those
pub image_repeat : (a : Tree) (least : ℕ) (most after : Option ℕ) {text : List ℕ} {x y z : List
    Bool} → IsMostAfter most least (Some after)
    → IsImage (Power (Language a) least) text x y → IsImage (Times (Language a) after) text y z
    → IsImage (Language (repeat a least most)) text x z
image_repeat a least most after h first second = image_by
    (λ w. (
      λ j.
          let (k, within, more) = j.second in (
            least + k,
            omega arith,
            (at_most_after most least after k h).0 within,
            (powers_joined (Language a) least k (least + k) w refl).1 (joined_by j j.first more),
          ),
      λ r.
          let (s, enough, within, all) = r in
          let more : s ≡ least + (s - least) = omega arith in
          let j = (powers_joined (Language a) least (s - least) s w more).0 all in
          joined_by j j.first (
            s - least,
            (at_most_after most least after (s - least) h).1 (subst (IsAtMost most) more within),
            j.second,
          ),
    ))
    (image_joined first second)

pub leads_repeat : (a : Tree) (least : ℕ) (most after : Option ℕ) {first now last : Search} {T U E :
    Type 0} {x : U} {result : Result T E} → IsMostAfter most least (Some after)
    → Leads {T = U} {E = E} (Power (Language a) least) first now (Ok x)
    → Leads (Times (Language a) after) now last result
    → Leads (Language (repeat a least most)) first last result
leads_repeat a least most after {result = result} h led on = record {
  text = on.text ∙ led.text;
  image = on_ok_weaker result (image_repeat a least most after h led.image) (rw led.text at
      on.image);
  kept = omega (arith, led.kept, on.kept);
}

-- a set without offsets leads nowhere
image_of_none : {L : List ℕ → Type 0} {text : List ℕ} {a : List Bool}
    → ((offset : ℕ) → Marked a offset → ⊥) → IsImage L text a a
image_of_none none = record {
  same_length = refl;
  reached = λ offset. (
    λ marked. absurd (none offset marked),
    λ r. absurd (none (length r.before) r.begins),
  );
}

-- once no offset is left, or a word more leaves the set as it is, all further words do
pub settled_ends : {L whole : List ℕ → Type 0} {first now next : Search} (k n : ℕ) {T E : Type 0}
    {x : T} → ((offset : ℕ) → Marked next.offsets.items offset → ⊥) ⊎ (next.offsets.items ≡
    now.offsets.items) → k ≡ suc n → Leads {T = T} {E = E} L now next (Ok x)
    → Completes whole (Power L k) first now → Leads {T = T} {E = E} whole first next (Ok x)
settled_ends {L} {whole} {first} {now} {next} k n {T} {E} {x} settled more led so_far = record {
  text = led.text ∙ so_far.text;
  image = elim settled [
    | inl none ↦
        let further : Completes whole (Power L n) first next = completes_more (subst (λ k. Completes
        whole (Power L k) first now) more so_far) led in
        further.ends next.offsets.items (image_of_none none)
    | inr same ↦
        let long = now.sized ∙ ap (λ t. suc (length t)) so_far.text in
        let step = rw (so_far.text, same) at led.image in
        rw same (so_far.ends now.offsets.items (image_settled L long step k))
  ];
  kept = omega (arith, so_far.kept, led.kept);
}
